-- One depot with every stop: its outcome is the tables'. Assumes nothing.
use mathlib.Core.Path.{◌≡◌, ap, ◌∙◌, subst}
use Prim.Native.Nat.{ℕ, ◌-◌}
use native.Mathlib.Omega.{arith}
use mathlib.Core.Bool.{true}
use mathlib.Core.List.{List, []}
use lib.Dec.{eqb}
use lib.ListN.{length, get_or, replicate, length-replicate, get_or-replicate}
use borrow.Author.Tests.{eq-eqb}
use Rattle.lists.specs.Laws.Filter.{those_all, those_alike}
use Rattle.sheet.specs.Fields.{rows_of}
use Rattle.sheet.specs.Depots.{depots_of}
use Rattle.sheet.specs.Laws.Stops.{depots_some}
use Rattle.sheet.specs.Stops.{all_stops}
use Rattle.constructive.specs.declared.tables.Filled.{Filled}
use Rattle.constructive.specs.Members.{members_of}
use Rattle.constructive.specs.TableContents.{HoldsOutcome}
use Rattle.constructive.specs.Laws.TableContents.{empty, holds_none}
use Rattle.multi_depot_offers.specs.ByDepot.{planned_of}
use Rattle.multi_depot_offers.specs.Promises.{PlanningTables, Next}
use Rattle.multi_depot_planning.specs.DepotLaid.{DepotLaid}
use Rattle.multi_depot_planning.proofs.Sharing.{length_planned}

zeros_members : (s : List ℕ) (n : ℕ) → n ≡ rows_of s → members_of s (replicate n 0) 0 ≡ all_stops s
unfolding members_of
zeros_members s n e =
    those_alike (λ c. eqb (get_or (replicate n 0) c 0) 0) (λ c. true) (rows_of s - depots_of s) (depots_of s)
    (λ c l u. eq-eqb (get_or (replicate n 0) c 0) 0 (get_or-replicate n c 0 0 (omega arith)))

module _ {s at₀ stops ends vehicles : List ℕ} (lent : PlanningTables s at₀ stops ends vehicles) {at : List ℕ} (zeros : at ≡ replicate (length at₀) 0) where
  pub lent_zeros : PlanningTables s at stops ends vehicles
  lent_zeros = record { sheet = lent.sheet; rows = ap length zeros ∙ length-replicate {A = ℕ} (length at₀) 0 ∙ lent.rows; stopped = lent.stopped; ended = lent.ended; driven = lent.driven }

  members_all : members_of s at 0 ≡ all_stops s
  members_all = rw zeros (zeros_members s (length at₀) lent.rows)

  pub next_zeros : Next s at 0 empty
  next_zeros = record { home = depots_some s; rounds = omega arith; room = rw members_all (omega (arith, those_all (rows_of s - depots_of s) (depots_of s))) }

  pub one_held : {stops' ends' vehicles' : List ℕ} {done : Filled} {total : ℕ} → DepotLaid stops ends vehicles empty (planned_of s 0 (members_of s at 0)) stops' ends' vehicles' done total → HoldsOutcome stops' ends' vehicles' done (rows_of s - depots_of s) (planned_of s 0 (all_stops s))
  one_held {stops'} {ends'} {vehicles'} {done} {total} h =
      let k : DepotLaid stops ends vehicles empty (planned_of s 0 (all_stops s)) stops' ends' vehicles' done total = rw members_all at h in
      let n : total ≡ rows_of s - depots_of s = omega (arith, k.count, length_planned s 0 (all_stops s), those_all (rows_of s - depots_of s) (depots_of s)) in
      subst (λ (m : ℕ). HoldsOutcome stops' ends' vehicles' done m (planned_of s 0 (all_stops s))) n (record { holds = k.holds [] (holds_none stops ends vehicles); from = k.from; within = k.within; aside = k.aside })
