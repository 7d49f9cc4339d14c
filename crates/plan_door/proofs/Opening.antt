-- The refusals of a sheet and a plan before the plan is read, from those of the planner. Assumes nothing.
use mathlib.Core.Path.{◌≡◌, refl, sym, ◌∙◌}
use Prim.Native.Nat.{ℕ, zero, suc, ◌≤◌, ◌<◌}
use native.Mathlib.Omega.{arith}
use mathlib.Core.Bool.{Bool, true, false, not, ◌&&◌, ◌||◌}
use mathlib.Core.List.{List}
use lib.ListN.{length}
use borrow.Author.Tests.{lt-leb, le-leb}
use Rattle.sheet.specs.Depots.{depots_of}
use Rattle.sheet.specs.Refusal.{header_right, counts_right, method_right, lengths_right, unless, contents, form}
use Rattle.sheet.specs.Laws.Form.{formed}
use native.Mathlib.Nat.{le_trans}
use Rattle.sheet.specs.Fields.{plan_length}
use Rattle.sheet.specs.Accepted.{Accepted}
use Rattle.sheet.specs.Laws.Accepted.{accepted}
use Rattle.plan.specs.Read.{read_plan, plan_right}
use Rattle.plan_reasons.specs.Reasons.{reasons_right}
use Rattle.plan_reader.specs.Reading.{ReaderTables, ReadRight}
use Rattle.plan_door.specs.Door.{or_else, one_depot, unread_refusal, plan_taken, door_refusal, DoorTables, LetIn}
use Rattle.plan_door.specs.Laws.Door.{unread_open}

module _ (s : List ℕ) (m : ℕ) (room one : Bool) where
  -- 1 to 4 are told of whatever the further buffer
  pub form_unread : {n : ℕ} → 0 < n → n ≡ form s m → n ≡ unread_refusal s m room one
  unfolding form unread_refusal
  form_unread {n} h = go (header_right s) (counts_right s) (method_right s) (lengths_right s m)
    where
      go : (a b c d : Bool) → n ≡ unless a 1 (unless b 2 (unless c 3 (unless d 4 0))) → n ≡ unless a 1 (unless b 2 (unless c 3 (unless (d && room) 4 (or_else (contents s) (unless (not one || one_depot s) 9 0)))))
      go false b c d e = e
      go true false c d e = e
      go true true false d e = e
      go true true true false e = e
      go true true true true e = absurd (omega arith)

  -- else the sheet and the plan have their lengths
  module _ (right : form s m ≡ 0) where
    past_form : unread_refusal s m room one ≡ unless room 4 (or_else (contents s) (unless (not one || one_depot s) 9 0))
    unfolding unread_refusal
    past_form = let f = formed s m right in rw (f.header, f.counts, f.method, f.lengths)

    pub room_unread : room ≡ false → 4 ≡ unread_refusal s m room one
    room_unread h = sym (past_form ∙ rw h)

    module _ (fits : room ≡ true) where
      pub contents_unread : {n : ℕ} → 0 < n → n ≡ contents s → n ≡ unread_refusal s m room one
      contents_unread {n} h e = sym (past_form ∙ rw (fits, ← e) (go n h))
        where
          go : (k : ℕ) → 0 < k → or_else k (unless (not one || one_depot s) 9 0) ≡ k
          go zero h = absurd (omega arith)
          go (suc k) h = refl

      module _ (none : contents s ≡ 0) where
        depots_unread : unread_refusal s m room one ≡ unless (not one || one_depot s) 9 0
        depots_unread = past_form ∙ rw (fits, none)

        pub any_unread : one ≡ false → 0 ≡ unread_refusal s m room one
        any_unread h = sym (depots_unread ∙ rw h)

        pub several_unread : one ≡ true → 1 < depots_of s → 9 ≡ unread_refusal s m room one
        several_unread h l = sym (depots_unread ∙ rw (h, lt-leb (depots_of s) 1 l))

        pub one_unread : one ≡ true → depots_of s ≤ 1 → 0 ≡ unread_refusal s m room one
        one_unread h l = sym (depots_unread ∙ rw (h, le-leb (depots_of s) 1 l))

-- ---- the door: what is told, or the plan in the tables
module _ (s plan : List ℕ) (room one : Bool) where
  pub door_refused : {n : ℕ} → 0 < n → n ≡ unread_refusal s (length plan) room one → n ≡ door_refusal s plan room one
  unfolding door_refusal
  door_refused {n} h = go (unread_refusal s (length plan) room one)
    where
      go : (k : ℕ) → n ≡ k → n ≡ or_else k (unless (plan_taken s plan) 10 0)
      go zero e = absurd (omega arith)
      go (suc k) e = e

  module _ (none : 0 ≡ unread_refusal s (length plan) room one) where
    pub fine : Accepted s × (length plan ≡ plan_length s)
    fine = accepted s (length plan) (unread_open s (length plan) room one (sym none)).sheet

    pub door_reads : (stops ends vehicles : List ℕ) → DoorTables stops ends vehicles → ReaderTables s plan stops ends vehicles
    door_reads stops ends vehicles t =
        let few = fine.0.sized.rows in
        record { sheet = fine.0; planned = fine.1; rows = le_trans few t.stopped; ended = le_trans few t.ended; fleet = le_trans few t.driven }

    past : door_refusal s plan room one ≡ unless (plan_taken s plan) 10 0
    unfolding door_refusal
    past = rw (← none) refl

    pub door_wrong : plan_right s plan ≡ false → 10 ≡ door_refusal s plan room one
    unfolding plan_taken
    door_wrong h = sym (past ∙ rw h refl)

    module _ {stops ends vehicles : List ℕ} {k : ℕ} (r : ReadRight s plan stops ends vehicles k) where
      pub door_unreasoned : reasons_right s plan (read_plan s plan).aside ≡ false → 10 ≡ door_refusal s plan room one
      unfolding plan_taken
      door_unreasoned h = sym (past ∙ rw (r.right, h) refl)

      pub door_right : reasons_right s plan (read_plan s plan).aside ≡ true → LetIn s plan room one stops ends vehicles k
      unfolding plan_taken
      door_right h = record { free = past ∙ rw (r.right, h) refl; sheet = fine.0; read = r }
