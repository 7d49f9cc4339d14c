-- Where the offers of a stop set aside end: at the depot tried last, which turned it down. Assumes nothing.
use Rattle.std.specs.Prelude.{◌≡◌, refl, ℕ, zero, suc, ◌+◌, ◌*◌, ◌≤◌, ◌<◌, Bool, true, false, not, ◌&&◌, cond, List, [], ◌∷◌, leb, eqb, length, get_or}
use Rattle.std.proofs.Common.{sym, ap, ◌∙◌, arith, leb-true, leb-false, ltb-true, ltb-false, eqb-true}
use Rattle.std.proofs.lemmas.Bool.{lt-leb}
use Rattle.std.specs.Float.Ieee.Bits.{is_true}
use Rattle.lists.specs.Count.{count, is_in}
use Rattle.lists.specs.Every.{Every}
use Rattle.lists.specs.Laws.Every.{every_at}
use Rattle.lists.specs.Laws.Count.{stop_counted}
use Rattle.lists.specs.Laws.Once.{count_append}
use Rattle.sheet.specs.Fields.{rows_of, vehicles_of}
use Rattle.sheet.specs.Depots.{depots_of}
use Rattle.sheet.specs.Stops.{is_stop}
use Rattle.sheet.specs.Laws.Stops.{stops_count}
use Rattle.sheet.specs.Accepted.{Accepted}
use Rattle.constructive.specs.Members.{members_of}
use Rattle.solomon_i1.specs.Laws.Closed.{aside_in}
use Rattle.multi_depot_offers.specs.ByDepot.{has_vehicle, is_no_depot, asked_after, next_depot, planned_of, planned_upto, planned_at, moves_to, offered_from, after_offers, moved, settled_in, first_from, first_depots, settled_at, left_out, gathered, by_depot}
use Rattle.multi_depot_offers.specs.Laws.Sooner.{not_itself}
use Rattle.multi_depot_offers.specs.Laws.Settled.{and_first, and_second, depot_row, next_asked, length_offered, length_first, settled}
use Rattle.multi_depot_offers.specs.Laws.Choice.{next_nearest, next_none}
use Rattle.multi_depot_offers.specs.Laws.Once.{planned_keeps}
use Rattle.reason.specs.Reason.{last_tried}
use Rattle.reason.specs.Laws.Tried.{last_tried_manned, last_tried_only}

-- ---- every row is at a depot that has a vehicle
pub record Manned (s : List ℕ) (d : ℕ) : Type 0 where
  pub depot : d < depots_of s
  pub vehicle : has_vehicle s d ≡ true

next_manned : (s : List ℕ) (c after : ℕ) → is_no_depot s (next_depot s c after) ≡ false → Manned s (next_depot s c after)
unfolding asked_after
next_manned s c after e = record { depot = leb-false (depots_of s) (next_depot s c after) e; vehicle = and_first (has_vehicle s (next_depot s c after)) _ (next_asked s c after e) }

moves_manned : (s : List ℕ) (turned : Bool) (c d : ℕ) → Manned s d → Manned s (moves_to s turned c d)
unfolding moves_to
moves_manned s false c d m = m
moves_manned s true c d m = go (is_no_depot s (next_depot s c d)) refl
  where
    go : (b : Bool) → is_no_depot s (next_depot s c d) ≡ b → Manned s (cond (not b) (next_depot s c d) d)
    go true e = m
    go false e = next_manned s c d e

offered_manned : (s aside : List ℕ) (c : ℕ) (at : List ℕ) → Every (Manned s) at → Every (Manned s) (offered_from s aside c at)
unfolding offered_from
offered_manned s aside c [] m = tt
offered_manned s aside c (d ∷ at) m = (moves_manned s (is_in c aside) c d m.0, offered_manned s aside (c + 1) at m.1)

settled_manned : (s : List ℕ) (n : ℕ) (at : List ℕ) → Every (Manned s) at → Every (Manned s) (settled_in n s at)
unfolding settled_in after_offers
settled_manned s zero at m = m
settled_manned s (suc n) at m = go (moved at (after_offers s at)) (settled_manned s n (after_offers s at) (offered_manned s (planned_at s at).aside 0 at m))
  where
    go : (b : Bool) → Every (Manned s) (settled_in n s (after_offers s at)) → Every (Manned s) (cond b (settled_in n s (after_offers s at)) at)
    go true r = r
    go false r = m

settled_long : (s : List ℕ) (n : ℕ) (at : List ℕ) → length (settled_in n s at) ≡ length at
unfolding settled_in
settled_long s zero at = refl
settled_long s (suc n) at = go (moved at (after_offers s at)) (settled_long s n (after_offers s at) ∙ length_offered s at)
  where
    go : (b : Bool) → length (settled_in n s (after_offers s at)) ≡ length at → length (cond b (settled_in n s (after_offers s at)) at) ≡ length at
    go true r = r
    go false r = refl

pub settled_rows : (s : List ℕ) → length (settled_at s) ≡ rows_of s
unfolding settled_at
settled_rows s = settled_long s (rows_of s * depots_of s) (first_depots s) ∙ length_first s

module _ (s : List ℕ) (a : Accepted s) (some : 0 < vehicles_of s) where
  first_manned : (c : ℕ) → c < rows_of s → Manned s (next_depot s c (depots_of s))
  first_manned c row = go (is_no_depot s (next_depot s c (depots_of s))) refl
    where
      go : (b : Bool) → is_no_depot s (next_depot s c (depots_of s)) ≡ b → Manned s (next_depot s c (depots_of s))
      go true e =
          let m = last_tried_manned s a c some in
          absurd (next_none s a c row (depots_of s) (leb-true (depots_of s) (next_depot s c (depots_of s)) e) (last_tried s c) (record { depot = m.0; vehicle = m.1; behind = λ l. absurd (omega arith) }))
      go false e = next_manned s c (depots_of s) e

  firsts_manned : (n c : ℕ) → c + n ≤ rows_of s → Every (Manned s) (first_from s n c)
  unfolding first_from
  firsts_manned zero c h = tt
  firsts_manned (suc n) c h = (first_manned c (omega arith), firsts_manned n (c + 1) (omega arith))

  -- once the offers are over, each is
  pub row_manned : (i : ℕ) → i < rows_of s → Manned s (get_or (settled_at s) i 0)
  unfolding settled_at first_depots
  row_manned i row =
      every_at (Manned s) 0 (settled_at s) i (omega (arith, settled_rows s))
      (settled_manned s (rows_of s * depots_of s) (first_depots s) (firsts_manned (rows_of s) 0 (omega arith)))

-- ---- a stop turned down at the end has no depot to go to
offered_at : (s aside : List ℕ) (c : ℕ) (at : List ℕ) (k : ℕ) → k < length at → get_or (offered_from s aside c at) k 0 ≡ moves_to s (is_in (c + k) aside) (c + k) (get_or at k 0)
unfolding offered_from
offered_at s aside c [] k h = absurd (omega arith)
offered_at s aside c (d ∷ at) zero h = let e : c + 0 ≡ c = omega arith in rw e
offered_at s aside c (d ∷ at) (suc k) h = let e : c + suc k ≡ c + 1 + k = omega arith in rw e (offered_at s aside (c + 1) at k (omega arith))

module _ (s : List ℕ) (a : Accepted s) (i : ℕ) (row : i < rows_of s) where
  abbrev place : ℕ
  place = get_or (settled_at s) i 0

  stays : moves_to s (is_in i (planned_at s (settled_at s)).aside) i place ≡ place
  unfolding after_offers
  stays =
      let e : 0 + i ≡ i = omega arith in
      rw e at (sym (offered_at s (planned_at s (settled_at s)).aside 0 (settled_at s) i (omega (arith, settled_rows s))) ∙ ap (λ (at : List ℕ). get_or at i 0) (settled s a))

  none_next : place < depots_of s → is_in i (planned_at s (settled_at s)).aside ≡ true → depots_of s ≤ next_depot s i place
  unfolding moves_to
  none_next h t = go (is_no_depot s (next_depot s i place)) refl (rw t at stays)
    where
      go : (b : Bool) → is_no_depot s (next_depot s i place) ≡ b → cond (not (is_no_depot s (next_depot s i place))) (next_depot s i place) place ≡ place → depots_of s ≤ next_depot s i place
      go true e m = leb-true (depots_of s) (next_depot s i place) e
      go false e m =
          let n = (next_nearest s a i row place (leb-false (depots_of s) (next_depot s i place) e)).admissible.behind h in
          let q : next_depot s i place ≡ place = rw e at m in
          absurd (not_itself s a i row place (depot_row s a i row place h) (rw q at n))

-- ---- who is turned down is so by the depot that it is at
planned_member : (s : List ℕ) (d : ℕ) (at : List ℕ) (i : ℕ) → 0 < count i (planned_of s d (members_of s at d)).aside → get_or at i 0 ≡ d
unfolding members_of
planned_member s d at i h =
    let o = planned_of s d (members_of s at d) in
    eqb-true (get_or at i 0) d
    (and_second (is_stop s i) _ (is_true _ (stop_counted (is_stop s i && eqb (get_or at i 0) d) (omega (arith, aside_in i o.rounds o.aside, planned_keeps s d (members_of s at d) i, stops_count s (λ c. eqb (get_or at c 0) d) i)))))

upto_turned : (s at : List ℕ) (n i : ℕ) → 0 < count i (planned_upto s at n).aside → 0 < count i (planned_of s (get_or at i 0) (members_of s at (get_or at i 0))).aside
unfolding planned_upto count
upto_turned s at zero i h = absurd (omega arith)
upto_turned s at (suc n) i h = go (is_in i (planned_of s n (members_of s at n)).aside) refl (λ k. upto_turned s at n i k)
  where
    go : (b : Bool) → is_in i (planned_of s n (members_of s at n)).aside ≡ b → (0 < count i (planned_upto s at n).aside → 0 < count i (planned_of s (get_or at i 0) (members_of s at (get_or at i 0))).aside) → 0 < count i (planned_of s (get_or at i 0) (members_of s at (get_or at i 0))).aside
    go true e r = let k = ltb-true 0 (count i (planned_of s n (members_of s at n)).aside) e in rw (planned_member s n at i k) k
    go false e r = let k = ltb-false 0 (count i (planned_of s n (members_of s at n)).aside) e in r (omega (arith, count_append i (planned_upto s at n).aside (planned_of s n (members_of s at n)).aside))

-- ---- a stop set aside
module _ (s : List ℕ) (a : Accepted s) (some : 0 < vehicles_of s) (i : ℕ) (aside : 0 < count i (by_depot s).aside) where
  left_out_lem : (is_stop s i && left_out s (settled_at s) (planned_at s (settled_at s)).aside i) ≡ true
  unfolding by_depot gathered
  left_out_lem = is_true _ (stop_counted (is_stop s i && left_out s (settled_at s) (planned_at s (settled_at s)).aside i) (omega (arith, aside, stops_count s (left_out s (settled_at s) (planned_at s (settled_at s)).aside) i)))

  pub aside_row : i < rows_of s
  aside_row = ltb-true i (rows_of s) (and_second (leb (depots_of s) i) _ (and_first (is_stop s i) _ left_out_lem))

  turned : is_in i (planned_at s (settled_at s)).aside ≡ true
  turned = rw (lt-leb (depots_of s) (get_or (settled_at s) i 0) (row_manned s a some i aside_row).depot) at (and_second (is_stop s i) _ left_out_lem)

  -- THE DEPOT TRIED LAST is where the offers end
  pub aside_tried_last : get_or (settled_at s) i 0 ≡ last_tried s i
  aside_tried_last =
      let m = row_manned s a some i aside_row in
      last_tried_only s a i aside_row (get_or (settled_at s) i 0) (record { depot = m.depot; vehicle = m.vehicle; last = none_next s a i aside_row m.depot turned })

  -- and it turned the stop down
  pub aside_turned_down : 0 < count i (planned_of s (last_tried s i) (members_of s (settled_at s) (last_tried s i))).aside
  aside_turned_down = rw aside_tried_last at (upto_turned s (settled_at s) (depots_of s) i (ltb-true 0 (count i (planned_at s (settled_at s)).aside) turned))
