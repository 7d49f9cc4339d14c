-- A stop judged: it keeps the limits, or not; it loses, is out, or is taken; and the best of all stops left, one by one. Assumes nothing.
use Rattle.std.specs.Prelude.{Option, Some, None}
use mathlib.Core.Path.{◌≡◌, refl, sym, ap, subst, ◌∙◌}
use Prim.Native.Nat.{ℕ, zero, suc, ◌+◌, ◌-◌, ◌≤◌, ◌<◌}
use native.Mathlib.Numerals.{add-one}
use Rattle.std.proofs.Common.{add-zero}
use native.Mathlib.Omega.{arith}
use mathlib.Core.Bool.{Bool, true, false, ◌||◌, or-false}
use mathlib.Core.List.{List}
use lib.ListN.{length, get_or, drop}
use lib.Seq.{drop-cons, drop-length}
use lib.Ieee.{Float}
use Rattle.evaluation_clock.specs.Clock.{moved_of}
use Rattle.evaluation.specs.Verdict.{verdict_of}
use Rattle.evaluation.specs.declared.limits.RouteLimits.{RouteLimits}
use Rattle.evaluation.proofs.ByRest.{either_passes}
use Rattle.nearest_neighbor_choice.specs.StopChoice.{StopChoice}
use Rattle.nearest_neighbor_choice.specs.Choice.{Offer, wins_of, better_stop, choose}
use Rattle.nearest_neighbor_choice.specs.Offers.{offer_if}
use Rattle.nearest_neighbor_choice.specs.Partial.{allows_by, allows_on_way, allows_home}
use Rattle.evaluation_clock.specs.declared.clock.BreakClock.{BreakClock}

-- ---- the limits are kept on the way, or with the rest at home
split : (s : List ℕ) (depot : ℕ) (limits : RouteLimits) (kept : Option BreakClock) (i : ℕ) (distance duration : Float) → allows_by s depot limits kept i distance duration ≡ (allows_on_way s depot limits kept i distance duration || allows_home s depot limits kept i distance)
unfolding allows_by allows_on_way allows_home verdict_of moved_of
split s depot limits None i distance duration = sym (or-false _)
split s depot limits (Some c) i distance duration = either_passes limits c.rest _ _ _

module _ (s : List ℕ) (depot : ℕ) (limits : RouteLimits) (kept : Option BreakClock) (i : ℕ) (distance duration : Float) where
  pub fits_on_way : allows_on_way s depot limits kept i distance duration ≡ true → allows_by s depot limits kept i distance duration ≡ true
  fits_on_way e = split s depot limits kept i distance duration ∙ ap (λ (t : Bool). t || allows_home s depot limits kept i distance) e

  pub fits_home : allows_on_way s depot limits kept i distance duration ≡ false → allows_by s depot limits kept i distance duration ≡ allows_home s depot limits kept i distance
  fits_home e = split s depot limits kept i distance duration ∙ ap (λ (t : Bool). t || allows_home s depot limits kept i distance) e

-- ---- a stop against the best so far
module _ (c : StopChoice) (j : ℕ) (t : Bool) (k : Float) where
  pub loses : (key : Float) → key ≡ k → wins_of key c ≡ false → c ≡ better_stop c j (offer_if t k)
  loses key e f = go t
    where
      go : (t : Bool) → c ≡ better_stop c j (offer_if t k)
      go true = rw (← e, f)
      go false = refl

  pub stays_out : t ≡ false → c ≡ better_stop c j (offer_if t k)
  stays_out f = rw f

  pub is_taken : (key : Float) → key ≡ k → wins_of key c ≡ true → t ≡ true → Some (j, key) ≡ better_stop c j (offer_if t k)
  is_taken key e f g = rw (g, ← e, f)

-- ---- the loop over the stops left
pub record Choosing (offer : ℕ → Offer) (left : List ℕ) (c : StopChoice) (j : ℕ) : Type 0 where
  pub within : j ≤ length left
  pub same : choose offer None 0 left ≡ choose offer c j (drop j left)

module _ (offer : ℕ → Offer) (left : List ℕ) (c : StopChoice) where
  pub goes_on : (j : ℕ) → Choosing offer left c j → (d : StopChoice) → j < length left → d ≡ better_stop c j (offer (get_or left j 0)) → Choosing offer left d (j + 1)
  unfolding choose
  goes_on j g d h e =
      record {
        within = omega arith;
        same = g.same ∙ ap (choose offer c j) (drop-cons left j 0 h) ∙ ap (λ (n : ℕ). choose offer (better_stop c j (offer (get_or left j 0))) (j + 1) (drop n left)) (sym (add-one j)) ∙ ap (λ (x : StopChoice). choose offer x (j + 1) (drop (j + 1) left)) (sym e);
      }

  pub ends : (j : ℕ) → Choosing offer left c j → length left ≤ j → c ≡ choose offer None 0 left
  unfolding choose
  ends j g h = let e : j ≡ length left = omega (arith, g.within) in sym (g.same ∙ rw (e, drop-length left))

  -- stops passed over that are no better
  passes : (n j : ℕ) → Choosing offer left c j → j + n ≤ length left → ((i : ℕ) → j ≤ i → i < j + n → c ≡ better_stop c i (offer (get_or left i 0))) → Choosing offer left c (j + n)
  passes zero j g h p = rw (add-zero j) g
  passes (suc n) j g h p =
      let e : j + 1 + n ≡ j + suc n = omega arith in
      subst (Choosing offer left c) e (passes n (j + 1) (goes_on j g c (omega arith) (p j (omega arith) (omega arith))) (omega arith) (λ i k l. p i (omega arith) (omega arith)))

  pub passes_to : (j end : ℕ) → Choosing offer left c j → (j ≤ end) × (end ≤ length left) → ((i : ℕ) → j ≤ i → i < end → c ≡ better_stop c i (offer (get_or left i 0))) → Choosing offer left c end
  passes_to j end g h p =
      let e : j + (end - j) ≡ end = omega (arith, h.0) in
      subst (Choosing offer left c) e (passes (end - j) j g (omega (arith, h.0, h.1)) (λ i k l. p i k (omega (arith, h.0))))
