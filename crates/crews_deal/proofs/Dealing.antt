-- What the door and the walk told, and the deal. Assumes nothing.
use Rattle.std.specs.Prelude.{◌≡◌, ℕ, zero, suc, ◌^◌, ◌≤◌, ◌<◌, Bool, true, false, List, [], ◌∷◌, T, map, length, get_or, take}
use Rattle.std.proofs.Common.{refl, sym, ap, ◌∙◌, subst, arith, eqb-true}
use Rattle.std.proofs.lemmas.List.{length-map}
use Rattle.std.proofs.Math.Seq.{length-take-le}
use Rattle.lists.specs.Every.{Every}
use Rattle.lists.specs.Laws.Every.{every_map}
use Rattle.sheet.specs.Fields.{most_rows}
use Rattle.constructive.specs.Outcome.{Round}
use Rattle.plan.specs.Read.{rounds_at, read_plan}
use Rattle.plan_door.specs.Door.{door_refusal}
use Rattle.plan_door.specs.Laws.Door.{door_counted, door_fits}
use Rattle.plan_figures.specs.declared.RouteFigures.{RouteFigures}
use Rattle.plan_figures.specs.Walked.{route_figures, Walked}
use Rattle.plan_figures.specs.Laws.Walked.{FiguresBounded, walked_long, walked_few, walked_bounded}
use Rattle.tariff.specs.Laws.Units.{begun_bounded}
use Rattle.crews.specs.Deal.{dealt, crews_right}
use Rattle.crews.specs.Fair.{Shared, Even, LargestBounded}
use Rattle.crews.specs.Asked.{Dealable}
use Rattle.crews.specs.Laws.Crews.{crews_few}
use Rattle.crews.specs.Laws.Even.{dealt_shared, dealt_even}
use Rattle.crews.specs.Laws.Bound.{dealt_bounded}
use Rattle.crews_deal.specs.Rounds.{whole_durations, plan_durations, deal_of, deal_room, deal_refusal, DealAnswered, DealShared, DealEven, DealBounded}
use Rattle.crews_deal.specs.Wholes.{Timed, rounded_up}

-- ---- the durations of rounds, one by one
-- those of the rounds' figures are the plan's
wholes_same : (s : List ℕ) (rs : List Round) → map rounded_up (map (route_figures s) rs) ≡ whole_durations s rs
unfolding whole_durations
wholes_same s [] = refl
wholes_same s (r ∷ rs) = rw (wholes_same s rs) refl

small_wholes : (fs : List RouteFigures) → Every Timed fs → (k : ℕ) → k < length (map rounded_up fs) → get_or (map rounded_up fs) k 0 ≤ 2 ^ 41
small_wholes [] e k h = absurd (omega arith)
small_wholes (f ∷ fs) e zero h = begun_bounded 1 (2 ^ 41) (2 ^ 41) f.duration (omega arith) (omega arith) e.0
small_wholes (f ∷ fs) e (suc k) h = small_wholes fs e.1 k (omega arith)

module _ (s plan lent : List ℕ) (w : ℕ) where
  -- all that is promised of a number and the bytes
  pub record Promised (r : ℕ) (out : List ℕ) : Type 0 where
    pub deal_answered : DealAnswered s plan w lent r out
    pub deal_shared : DealShared s plan w r out
    pub deal_even : DealEven s plan w r out
    pub deal_bounded : DealBounded s plan w r out

  -- of a refusal: its number, and that no byte is written
  refused : (r : ℕ) → 0 < r → r ≡ deal_refusal s plan w (length lent) → Promised r lent
  refused zero h e = absurd (omega arith)
  refused (suc r) h e = record {
    deal_answered = record { number = e; bytes = rw (← e) refl };
    deal_shared = λ z. absurd (omega arith);
    deal_even = λ z. absurd (omega arith);
    deal_bounded = λ z. absurd (omega arith);
  }

module _ (s plan lent : List ℕ) (w : ℕ) (room : Bool) (asked : 2 ≤ length plan → room ≡ deal_room plan (length lent)) where
  door_deal : door_refusal s plan room false ≡ door_refusal s plan (deal_room plan (length lent)) false
  door_deal = door_counted s plan room (deal_room plan (length lent)) false asked

  pub deal_refused : (n : ℕ) → 0 < n → n ≡ door_refusal s plan room false → Promised s plan lent w n lent
  unfolding deal_refusal
  deal_refused n h e = refused s plan lent w n h (go n h (e ∙ door_deal))
    where
      go : (n : ℕ) → 0 < n → n ≡ door_refusal s plan (deal_room plan (length lent)) false → n ≡ deal_refusal s plan w (length lent)
      go zero h e = absurd (omega arith)
      go (suc n) h e = rw (← e) refl

  module _ (walked : List RouteFigures) (let_in : Walked s plan room false walked) where
    nothing_told : door_refusal s plan (deal_room plan (length lent)) false ≡ 0
    nothing_told = sym door_deal ∙ let_in.free

    pub few : length walked ≤ most_rows
    few = omega (arith, walked_few s plan room false walked let_in, let_in.sheet.sized.rows)

    pub deal_14 : crews_right w ≡ false → Promised s plan lent w 14 lent
    unfolding deal_refusal
    deal_14 h = refused s plan lent w 14 (omega arith) (rw (nothing_told, h) refl)

    fits : length lent ≡ length walked
    unfolding deal_room
    fits =
        let f = sym (asked (omega (arith, walked_long s plan room false walked let_in))) ∙ door_fits s plan room false let_in.free in
        eqb-true (length lent) (rounds_at plan) f ∙ sym let_in.rounds

    pub timed : Every Timed walked
    timed = every_map FiguresBounded Timed (λ f b. b.1) walked (walked_bounded s plan room false walked let_in)

    pub cut_long : (table : List ℕ) → most_rows ≤ length table → length (take (length walked) table) ≡ length walked
    cut_long table h = length-take-le (length walked) table (omega (arith, few))

    module _ (right : crews_right w ≡ true) (wholes : List ℕ) (up : wholes ≡ map rounded_up walked) where
      each : length wholes ≡ length walked
      each = ap length up ∙ length-map walked rounded_up

      pub dealable : Dealable wholes w lent
      dealable = record {
        crews = subst T (sym right) tt;
        few = omega (arith, few, each);
        room = fits ∙ sym each;
        small = rw up (small_wholes walked timed);
      }

      module _ (out : List ℕ) (made : out ≡ dealt w wholes) where
        abbrev ds : List ℕ
        ds = plan_durations s plan

        deal_made : out ≡ dealt w ds
        unfolding plan_durations
        deal_made = made ∙ ap (dealt w) (up ∙ ap (map rounded_up) let_in.figures ∙ wholes_same s (read_plan s plan).rounds)

        pub dealt_out : Promised s plan lent w 0 out
        unfolding deal_refusal deal_of
        dealt_out =
            let one = (crews_few w (subst T (sym right) tt)).0 in
            record {
              deal_answered = record { number = rw (nothing_told, right) refl; bytes = rw (nothing_told, right) deal_made };
              deal_shared = λ z. subst (Shared w ds) (sym deal_made) (dealt_shared w ds one);
              deal_even = λ z. subst (Even w ds) (sym deal_made) (dealt_even w ds one);
              deal_bounded = λ z. subst (LargestBounded w ds) (sym deal_made) (dealt_bounded w ds one);
            }
