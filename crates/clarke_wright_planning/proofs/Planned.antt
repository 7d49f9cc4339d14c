-- Once no saving is left: what the rounds' tables ask, and the outcome that is laid down. Assumes nothing.
use mathlib.Core.Path.{◌≡◌, ap, ◌∙◌, subst}
use Prim.Native.Nat.{ℕ, ◌+◌, ◌-◌, ◌≤◌}
use native.Mathlib.Omega.{arith}
use mathlib.Core.List.{List}
use lib.ListN.{length, drop, length-drop}
use lib.Seq.{length-take-le}
use Rattle.constructive.specs.declared.tables.Filled.{Filled}
use Rattle.constructive.specs.Terms.{terms_of}
use Rattle.constructive.specs.Outcome.{Outcome}
use Rattle.constructive.specs.Members.{part, Members}
use Rattle.constructive.specs.Stored.{Room, filled_by, Stored}
use Rattle.clarke_wright_savings.specs.declared.terms.Directed.{Directed}
use Rattle.clarke_wright_savings.specs.Savings.{directed_of, rounds_of, aside_of, routes_of, planned_by, clarke_wright}
use Rattle.clarke_wright_slots.specs.Laws.HowMany.{routes_many}
use Rattle.clarke_wright_slots.specs.Slots.{slots_in, routed_stops, Slotted, Laying}
use Rattle.clarke_wright_slots.specs.Laws.Slots.{route_few}
use Rattle.clarke_wright_slots.proofs.Rounds.{laid_so}

-- how many members there are
pub members_long : {s : List ℕ} {depot : ℕ} {stops : List ℕ} {start total : ℕ} → Members s depot stops start total → length (part stops start total) ≡ total - start
members_long {stops = stops} {start = start} {total = total} ok = length-take-le (total - start) (drop start stops) (omega (arith, length-drop start stops, ok.within, ok.from))

module _ {s : List ℕ} {depot : ℕ} {stops ends vehicles : List ℕ} {f : Filled} {total : ℕ} (ok : Members s depot stops f.routed total) (room : Room ends vehicles f total) (t : Directed) {n : ℕ} {cells lens loads slots : List ℕ}
    (g : Slotted s n cells lens loads slots) (same : slots_in n cells lens ≡ routes_of s t (part stops f.routed total)) where
  abbrev members : List ℕ
  members = part stops f.routed total

  many : f.routed + routed_stops (slots_in n cells lens) + length (aside_of s t.common members) ≡ total
  many = omega (arith, ap routed_stops same, routes_many s t members, members_long ok, ok.from)

  pub laying : Laying n cells lens stops ends vehicles f
  laying = record {
    most = g.room.most;
    celled = g.room.celled;
    measured = omega (arith, g.room.most, g.room.measured);
    long = λ k h. omega (arith, g.long k h, route_few (slots_in n cells lens) k, g.routes.few);
    rounds = room.rounds;
    few = omega (arith, many, ok.most);
    stopped = omega (arith, many, ok.within);
    ended = omega (arith, many, room.ended);
    driven = omega (arith, many, room.driven);
  }

  module _ {aside : List ℕ} (left : aside ≡ aside_of s t.common members) where
    pub aside_fits : f.routed + routed_stops (slots_in n cells lens) + length aside ≤ length stops
    aside_fits = omega (arith, many, ap length left, ok.within)

    -- what is laid down is the outcome
    module _ (v : ℕ) (terms : t ≡ directed_of s depot v members) where
      planned : laid_so (rounds_of v (slots_in n cells lens)) aside ≡ clarke_wright s depot v members
      unfolding clarke_wright planned_by directed_of terms_of
      planned =
          ap (λ (rs : List (List ℕ)). laid_so (rounds_of v rs) aside) same
          ∙ ap (laid_so (rounds_of v (routes_of s t members))) left
          ∙ ap (λ (u : Directed). laid_so (rounds_of v (routes_of s u members)) (aside_of s u.common members)) terms

      pub planned_count : {r : Filled} → r ≡ filled_by f (rounds_of v (slots_in n cells lens)) → r ≡ filled_by f (clarke_wright s depot v members).rounds
      planned_count e = e ∙ ap (λ (o : Outcome). filled_by f o.rounds) planned

      pub planned_laid : {stops' ends' vehicles' : List ℕ} → Stored stops ends vehicles f (laid_so (rounds_of v (slots_in n cells lens)) aside) stops' ends' vehicles'
          → Stored stops ends vehicles f (clarke_wright s depot v members) stops' ends' vehicles'
      planned_laid {stops'} {ends'} {vehicles'} e = subst (λ (o : Outcome). Stored stops ends vehicles f o stops' ends' vehicles') planned e
