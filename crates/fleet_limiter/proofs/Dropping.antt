-- One round dropped: the least leaves the tables, and its stops are left. Assumes nothing.
use mathlib.Core.Path.{◌≡◌, sym, ap, ◌∙◌}
use Prim.Native.Nat.{ℕ, ◌-◌, ◌<◌}
use native.Mathlib.Omega.{arith}
use mathlib.Core.Bool.{Bool}
use mathlib.Core.List.{List, [], append-nil}
use lib.ListN.{drop}
use Rattle.constructive.specs.Outcome.{Outcome, rounds_in, start_in, outcome_in}
use Rattle.constructive.specs.Tables.{Tables}
use Rattle.constructive.specs.Laws.TableContents.{held_outcome}
use Rattle.fleet.specs.Limit.{Refit, victim_of, without_round, dropped}
use Rattle.fleet.specs.Laws.Bounds.{Among, victim_among}
use Rattle.fleet_tables.specs.Promises.{TablesOf, taken_out, Leaves}
use Rattle.fleet_tables.specs.Laws.Standing.{tables_sound, sound_tables, out_sound}
use Rattle.fleet_limiter.specs.Promises.{TablesHold, pending_first, refit_outcome}
use Rattle.fleet_limiter.proofs.Choosing.{whole, held}

module _ {s stops ends vehicles : List ℕ} {n total : ℕ} (ok : Tables s stops ends vehicles n total) (some : 0 < n) {v : ℕ} (told : (vs : List ℕ) → v ≡ (victim_of s (rounds_in stops ends vs n 0 0)).round) where
  abbrev o : Outcome
  o = whole ok

  tabled : TablesOf stops ends vehicles n total o
  tabled = held ok

  least : v ≡ (victim_of s o.rounds).round
  unfolding outcome_in
  least = told vehicles

  among : Among o.rounds (victim_of s o.rounds)
  among = victim_among s o.rounds (omega (arith, tabled.holds.count))

  pub leaves : Leaves stops ends vehicles n v
  leaves = record { total = total; outcome = o; held = tabled; few = ok.most; round = omega (arith, least, among.round, tabled.holds.count) }

  module _ (full : start_in ends n ≡ total) {stops' ends' vehicles' : List ℕ} (out : (t : ℕ) (q : Outcome) → TablesOf stops ends vehicles n t q → TablesOf stops' ends' vehicles' (n - 1) t (taken_out v q)) where
    after : TablesOf stops' ends' vehicles' (n - 1) total (taken_out v o)
    after = out total o tabled

    after_outcome : outcome_in stops' ends' vehicles' (n - 1) total ≡ taken_out v o
    after_outcome = held_outcome stops' ends' vehicles' (record { rounds = n - 1; routed = start_in ends' (n - 1) }) total (taken_out v o) after

    pub after_tables : Tables s stops' ends' vehicles' (n - 1) total
    after_tables =
        sound_tables s stops' ends' vehicles' (n - 1) total (taken_out v o) after (out_sound s o (tables_sound s stops ends vehicles n total ok) v (omega (arith, leaves.round, tabled.holds.count))) ok.sheet (omega (arith, ok.few)) ok.most

    -- no stop was set aside
    none_aside : o.aside ≡ []
    unfolding outcome_in
    none_aside = let z : total - start_in ends n ≡ 0 = omega arith in rw z

    left_so : pending_first (taken_out v o) ≡ dropped s o.rounds
    left_so = rw (none_aside, append-nil, least) (ap (λ (l : List ℕ). record { rounds = without_round (victim_of s o.rounds).round o.rounds; pending = l }) (sym among.stops))

    pub drops : (soft : Bool) {stops'' ends'' vehicles'' : List ℕ} → TablesHold s stops'' ends'' vehicles'' (n - 1) total (refit_outcome s soft (pending_first (outcome_in stops' ends' vehicles' (n - 1) total))) → TablesHold s stops'' ends'' vehicles'' (n - 1) total (refit_outcome s soft (dropped s o.rounds))
    drops soft g = record { tables = g.tables; outcome = g.outcome ∙ ap (λ (x : Refit). refit_outcome s soft x) (ap pending_first after_outcome ∙ left_so) }

    -- what stands behind them stays
    pub stays : (stops'' : List ℕ) → drop (start_in ends n) stops' ≡ drop (start_in ends n) stops → drop total stops'' ≡ drop total stops' → drop total stops'' ≡ drop total stops
    stays stops'' k l = l ∙ rw full at k
