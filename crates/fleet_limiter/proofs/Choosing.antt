-- The rounds of the tables, apart from the stops behind them. Assumes nothing.
use mathlib.Core.Path.{◌≡◌, sym, ◌∙◌}
use Prim.Native.Nat.{ℕ, ◌≤◌}
use native.Mathlib.Omega.{arith}
use mathlib.Core.Bool.{Bool}
use mathlib.Core.List.{List, [], append-nil}
use Rattle.constructive.specs.Outcome.{Outcome, rounds_in, start_in, outcome_in, chains}
use Rattle.constructive.specs.Members.{part}
use Rattle.constructive.specs.Tables.{Tables}
use Rattle.fleet.specs.Pick.{Pick}
use Rattle.fleet.specs.Cheapest.{pick_of}
use Rattle.fleet_tables.specs.Promises.{TablesOf}
use Rattle.fleet_tables.specs.Laws.Standing.{tables_tabled, tables_sound, sound_tables, alone_sound}
use Rattle.fleet_tables.specs.Laws.Places.{tabled}

module _ {s stops ends vehicles : List ℕ} {n total : ℕ} (ok : Tables s stops ends vehicles n total) where
  abbrev pub whole : Outcome
  whole = outcome_in stops ends vehicles n total

  pub held : TablesOf stops ends vehicles n total whole
  held = tables_tabled s stops ends vehicles n total ok

  module _ {routed : ℕ} (e : routed ≡ start_in ends n) where
    pub routed_within : routed ≤ total
    routed_within = omega (arith, held.from)

    -- the tables of the rounds without the stops behind them
    alone : TablesOf stops ends vehicles n routed (record { rounds = whole.rounds; aside = [] })
    alone = rw e
        (tabled stops ends vehicles n (start_in ends n) (record { rounds = whole.rounds; aside = [] }) held.holds.count held.holds.ended held.holds.driven
        (held.holds.stopped ∙ sym (append-nil (chains whole.rounds []))) (omega (arith, held.holds.routed)) (omega (arith, held.from, held.within)))

    pub alone_tables : Tables s stops ends vehicles n routed
    alone_tables =
        sound_tables s stops ends vehicles n routed (record { rounds = whole.rounds; aside = [] }) alone (alone_sound s whole (tables_sound s stops ends vehicles n total ok)) ok.sheet ok.few (omega (arith, routed_within, ok.most))

    pub picked : (soft : Bool) {p : Pick} → p ≡ pick_of s soft (rounds_in stops ends vehicles n 0 0) (part stops routed total) → p ≡ pick_of s soft whole.rounds whole.aside
    unfolding outcome_in
    picked soft q = rw e at q
