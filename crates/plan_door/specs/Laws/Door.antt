-- What is so of a sheet and a plan that the door lets in, and when the further buffer does not count. Assumes nothing.
use Rattle.std.specs.Prelude.{◌≡◌, Bool, not, ◌&&◌, ◌||◌, List, length}
use Rattle.std.proofs.Math.Path.{refl}
use Rattle.std.proofs.Common.{sym, arith, true≢false, leb-true, eqb-true, eqb}
use Prim.Native.Nat.{ℕ, zero, suc, ◌≤◌}
use Rattle.std.proofs.Math.Bool.{true, false}
use Rattle.sheet.specs.Fields.{sheet_length, plan_length}
use Rattle.sheet.specs.Depots.{depots_of}
use Rattle.sheet.specs.Refusal.{header_right, counts_right, method_right, lengths_right, unless, contents, refusal_of}
use Rattle.sheet.specs.Accepted.{Accepted}
use Rattle.sheet.specs.Laws.Accepted.{accepted}
use Rattle.sheet.specs.Laws.Stops.{depots_some}
use Rattle.plan_door.specs.Door.{or_else, one_depot, unread_refusal, plan_taken, door_refusal}

-- the further buffer is looked at only beside a sheet and a plan of their lengths
pub door_room : (s plan : List ℕ) (a b one : Bool) → (lengths_right s (length plan) ≡ true → a ≡ b) → door_refusal s plan a one ≡ door_refusal s plan b one
unfolding door_refusal unread_refusal
door_room s plan a b one = go (lengths_right s (length plan))
  where
    go : (d : Bool) → (d ≡ true → a ≡ b)
        → or_else (unless (header_right s) 1 (unless (counts_right s) 2 (unless (method_right s) 3 (unless (d && a) 4 (or_else (contents s) (unless (not one || one_depot s) 9 0)))))) (unless (plan_taken s plan) 10 0)
        ≡ or_else (unless (header_right s) 1 (unless (counts_right s) 2 (unless (method_right s) 3 (unless (d && b) 4 (or_else (contents s) (unless (not one || one_depot s) 9 0)))))) (unless (plan_taken s plan) 10 0)
    go true h = rw (h refl)
    go false h = refl

-- a plan of its length has a count of rounds
counted : (s : List ℕ) (m : ℕ) → lengths_right s m ≡ true → 2 ≤ m
unfolding lengths_right
counted s m e = go (eqb (length s) (sheet_length s)) (eqb m (plan_length s)) refl e
  where
    go : (a b : Bool) → eqb m (plan_length s) ≡ b → a && b ≡ true → 2 ≤ m
    go false b f g = absurd (true≢false (sym g))
    go true false f g = absurd (true≢false (sym g))
    go true true f g = omega (arith, eqb-true m (plan_length s) f)

-- so a further buffer whose length goes by that count is looked at only where there is one
pub door_counted : (s plan : List ℕ) (a b one : Bool) → (2 ≤ length plan → a ≡ b) → door_refusal s plan a one ≡ door_refusal s plan b one
door_counted s plan a b one h = door_room s plan a b one (λ e. h (counted s (length plan) e))

-- nothing is told
pub record Open (s : List ℕ) (m : ℕ) (room one : Bool) : Type 0 where
  pub sheet : refusal_of s m ≡ 0
  pub fits : room ≡ true
  pub depots : (not one || one_depot s) ≡ true

pub unread_open : (s : List ℕ) (m : ℕ) (room one : Bool) → unread_refusal s m room one ≡ 0 → Open s m room one
unfolding unread_refusal refusal_of
unread_open s m room one t = let o = go (header_right s) (counts_right s) (method_right s) (lengths_right s m) room (contents s) (not one || one_depot s) t in record { sheet = o.0; fits = o.1.0; depots = o.1.1 }
  where
    go : (a b c d e : Bool) (k : ℕ) (f : Bool) → unless a 1 (unless b 2 (unless c 3 (unless (d && e) 4 (or_else k (unless f 9 0))))) ≡ 0
        → (unless a 1 (unless b 2 (unless c 3 (unless d 4 k))) ≡ 0) × ((e ≡ true) × (f ≡ true))
    go false b c d e k f t = absurd (omega arith)
    go true false c d e k f t = absurd (omega arith)
    go true true false d e k f t = absurd (omega arith)
    go true true true false e k f t = absurd (omega arith)
    go true true true true false k f t = absurd (omega arith)
    go true true true true true (suc k) f t = absurd (omega arith)
    go true true true true true zero false t = absurd (omega arith)
    go true true true true true zero true t = (refl, (refl, refl))

-- the other way: so much is enough
pub open_door : (s plan : List ℕ) (one : Bool) → refusal_of s (length plan) ≡ 0 → (not one || one_depot s) ≡ true → plan_taken s plan ≡ true → door_refusal s plan true one ≡ 0
unfolding door_refusal unread_refusal refusal_of
open_door s plan one t d p = rw p (go (header_right s) (counts_right s) (method_right s) (lengths_right s (length plan)) (contents s) t)
  where
    go : (a b c e : Bool) (k : ℕ) → unless a 1 (unless b 2 (unless c 3 (unless e 4 k))) ≡ 0 → or_else (unless a 1 (unless b 2 (unless c 3 (unless (e && true) 4 (or_else k (unless (not one || one_depot s) 9 0)))))) 0 ≡ 0
    go false b c e k t = absurd (omega arith)
    go true false c e k t = absurd (omega arith)
    go true true false e k t = absurd (omega arith)
    go true true true false k t = absurd (omega arith)
    go true true true true (suc k) t = absurd (omega arith)
    go true true true true zero t = rw d

module _ (s plan : List ℕ) (room one : Bool) (free : door_refusal s plan room one ≡ 0) where
  -- nothing is told before the plan is read
  door_unread : unread_refusal s (length plan) room one ≡ 0
  unfolding door_refusal
  door_unread = go (unread_refusal s (length plan) room one) free
    where
      go : (n : ℕ) → or_else n (unless (plan_taken s plan) 10 0) ≡ 0 → n ≡ 0
      go zero t = refl
      go (suc n) t = t

  door_open : Open s (length plan) room one
  door_open = unread_open s (length plan) room one door_unread

  pub door_fits : room ≡ true
  door_fits = door_open.fits

  pub door_accepted : Accepted s × (length plan ≡ plan_length s)
  door_accepted = accepted s (length plan) door_open.sheet

  pub door_taken : plan_taken s plan ≡ true
  unfolding door_refusal
  door_taken = go (plan_taken s plan) (rw door_unread at free)
    where
      go : (b : Bool) → unless b 10 0 ≡ 0 → b ≡ true
      go true t = refl
      go false t = absurd (omega arith)

  pub door_one : one ≡ true → depots_of s ≡ 1
  door_one e = go one e door_open.depots
    where
      go : (b : Bool) → b ≡ true → (not b || one_depot s) ≡ true → depots_of s ≡ 1
      go true f h = omega (arith, leb-true (depots_of s) 1 h, depots_some s)
      go false f h = absurd (true≢false (sym f))
