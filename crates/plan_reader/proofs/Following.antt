-- The loop along a chain: the stops so far, with the chain that is left, are all of them. Assumes nothing.
use mathlib.Core.Path.{◌≡◌, refl, sym, ap, ◌∙◌, subst}
use Prim.Native.Nat.{ℕ, zero, suc, ◌+◌, ◌-◌, ◌≤◌, ◌<◌}
use native.Mathlib.Numerals.{add-one}
use native.Mathlib.Omega.{arith}
use mathlib.Core.List.{List, [], ◌∷◌, ◌++◌, append_assoc, append-nil}
use lib.Dec.{T}
use lib.ListN.{length, take, set, length-append, length-set}
use lib.Seq.{length-take-le, take-suc-set}
use Rattle.sheet.specs.Fields.{rows_of}
use Rattle.sheet.specs.Depots.{depots_of}
use Rattle.constructive.specs.Right.{links_right}
use Rattle.plan.specs.Read.{next_at, chain_from, chain_of}
use Rattle.plan_reader.specs.Reading.{stop_count}
use Rattle.plan_reader.specs.Chains.{Followed}
use Rattle.plan_reader.specs.Laws.Links.{links_one, links_join, links_mid}

-- ---- a chain at its link
module _ (plan : List ℕ) (n : ℕ) where
  chain_more : (fuel link : ℕ) → (link ≡ 0 → ⊥) → chain_from plan n (suc fuel) link ≡ link ∷ chain_from plan n fuel (next_at plan n link)
  unfolding chain_from
  chain_more fuel zero d = absurd (d refl)
  chain_more fuel (suc link) d = refl

  chain_head : (fuel link : ℕ) → (link ≡ 0 → ⊥) → (rest : List ℕ) × (chain_from plan n fuel link ≡ link ∷ rest)
  unfolding chain_from
  chain_head fuel zero d = absurd (d refl)
  chain_head zero (suc link) d = ([], refl)
  chain_head (suc fuel) (suc link) d = (chain_from plan n fuel (next_at plan n (suc link)), refl)

  chain_end : (fuel : ℕ) → chain_from plan n fuel 0 ≡ []
  unfolding chain_from
  chain_end zero = refl
  chain_end (suc fuel) = refl

-- ---- after the stops from `from` up to `at`
pub record Following (s plan : List ℕ) (first : ℕ) (before : List ℕ) (from : ℕ) (stops : List ℕ) (link at : ℕ) : Type 0 where
  pub low : from ≤ at
  pub room : at ≤ stop_count s
  pub long : length stops ≡ length before
  pub same : take from before ++ chain_of s plan first ≡ take at stops ++ chain_from plan (rows_of s) (rows_of s - (at - from)) link
  pub links : T (links_right s (take at stops))

module _ {s plan : List ℕ} {first : ℕ} {before : List ℕ} {from : ℕ} {stops : List ℕ} {link at : ℕ} (g : Following s plan first before from stops link at) where
  abbrev rows : List ℕ
  rows = take from before ++ chain_of s plan first

  head : (link ≡ 0 → ⊥) → (rest : List ℕ) × (rows ≡ take at stops ++ (link ∷ rest))
  head d =
      let c = chain_head plan (rows_of s) (rows_of s - (at - from)) link d in
      (c.0, g.same ∙ ap (λ (l : List ℕ). take at stops ++ l) c.1)

  -- a link to no stop
  pub no_stop : (link ≡ 0 → ⊥) → ((depots_of s ≤ link) × (link < rows_of s) → ⊥) → T (links_right s rows) → stop_count s < length rows
  no_stop d n t = let h = head d in absurd (n (links_mid s (take at stops) link h.0 (subst (λ (l : List ℕ). T (links_right s l)) h.1 t)))

  -- a stop more than there are
  pub no_room : (link ≡ 0 → ⊥) → rows_of s ≤ length stops → stop_count s ≤ at → stop_count s < length rows
  no_room d l h =
      let c = head d in
      let k = length-take-le at stops (omega (arith, g.room)) in
      rw c.1 (omega (arith, length-append (take at stops) (link ∷ c.0)))

  module _ (low : depots_of s ≤ link) (high : link < rows_of s) (more : at < stop_count s) (size : rows_of s ≤ length stops) where
    taken : take (at + 1) (set stops at link) ≡ take at stops ++ (link ∷ [])
    taken = rw (add-one at) (take-suc-set stops at link (omega arith))

    step : (link ≡ 0 → ⊥) → rows ≡ take (at + 1) (set stops at link) ++ chain_from plan (rows_of s) (rows_of s - (at + 1 - from)) (next_at plan (rows_of s) link)
    step d =
        let e : rows_of s - (at - from) ≡ suc (rows_of s - (at + 1 - from)) = omega (arith, g.low) in
        g.same
        ∙ ap (λ (m : ℕ). take at stops ++ chain_from plan (rows_of s) m link) e
        ∙ ap (λ (l : List ℕ). take at stops ++ l) (chain_more plan (rows_of s) (rows_of s - (at + 1 - from)) link d)
        ∙ sym (ap (λ (l : List ℕ). l ++ chain_from plan (rows_of s) (rows_of s - (at + 1 - from)) (next_at plan (rows_of s) link)) taken
        ∙ append_assoc (take at stops) (link ∷ []) _)

    pub goes_on : (after : List ℕ) (next : ℕ) → (link ≡ 0 → ⊥) → after ≡ set stops at link → next ≡ next_at plan (rows_of s) link → Following s plan first before from after next (at + 1)
    goes_on after next d w e = record {
      low = omega (arith, g.low);
      room = omega arith;
      long = rw w (length-set stops at link ∙ g.long);
      same = rw (w, e) (step d);
      links = rw (w, taken) (links_join s (take at stops) (link ∷ []) g.links (links_one s link low high));
    }

  pub ends : link ≡ 0 → Followed s rows stops at
  ends z =
      let e : rows ≡ take at stops = g.same ∙ ap (λ (l : ℕ). take at stops ++ chain_from plan (rows_of s) (rows_of s - (at - from)) l) z ∙ ap (λ (l : List ℕ). take at stops ++ l) (chain_end plan (rows_of s) (rows_of s - (at - from))) ∙ append-nil (take at stops) in
      record { room = g.room; same = e; links = rw e g.links }
