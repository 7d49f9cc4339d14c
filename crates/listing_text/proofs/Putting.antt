-- Texts put one after another are one text. Assumes nothing.
use mathlib.Core.Path.{◌≡◌, refl, sym, ap, ◌∙◌}
use Prim.Native.Nat.{ℕ, ◌+◌}
use native.Mathlib.Nat.{add-zero}
use native.Mathlib.Omega.{arith}
use mathlib.Core.List.{List, [], ◌∷◌}
use lib.ListN.{length, take-append-drop, length-append}
use Rattle.wire.specs.Bytes.{write}
use Rattle.wire.specs.Laws.Bytes.{length_write, write_write}
use Rattle.listing_text.specs.Text.{concatenated}
use Rattle.listing_text.specs.Put.{TextRoom, Put, HasRoom, Appends}
use Rattle.listing_text.specs.declared.text.Text.{Text}

write_nothing : (s : List ℕ) (at : ℕ) → write s at [] ≡ s
unfolding write
write_nothing s at = rw (add-zero at) (take-append-drop at s)

-- what stands in the buffer once the parts that are left are put too
pub record Left (before after : Text) (whole : List ℕ) (left : List (List ℕ)) : Type 0 where
  pub same_buffer : after.out.ghost_name ≡ before.out.ghost_name
  pub same : write after.out.now after.end (concatenated left) ≡ write before.out.now before.end whole
  pub long : after.end + length (concatenated left) ≡ before.end + length whole
  pub kept : length after.out.now ≡ length before.out.now
  pub room : HasRoom before whole

pub begins : (t : Text) (parts : List (List ℕ)) → HasRoom t (concatenated parts) → Left t t (concatenated parts) parts
begins t parts r = record { same_buffer = refl; same = refl; long = refl; kept = refl; room = r }

-- a buffer keeps its length
kept : {s t xs : List ℕ} {at end : ℕ} → TextRoom s at xs → Put s t at xs end → length t ≡ length s
kept {s} {t} {xs} {at} r p = ap length p.same ∙ length_write s at xs r

module _ {t u : Text} {whole part : List ℕ} {parts : List (List ℕ)} (l : Left t u whole (part ∷ parts)) where
  -- the next part has room
  pub fits : HasRoom u part
  fits = let a = l.long in let b = l.kept in let r = l.room in omega (arith, length-append part (concatenated parts))

  pub next : {v : Text} → Appends u v part → Left t v whole parts
  next {v} p =
      let a = l.long in
      let b = l.kept in
      let r = l.room in
      let e = p.put.long in
      let n = length-append part (concatenated parts) in
      record {
        same_buffer = p.same_buffer ∙ l.same_buffer;
        same =
            ap (λ (x : List ℕ). write x v.end (concatenated parts)) p.put.same
            ∙ ap (λ (k : ℕ). write (write u.out.now u.end part) k (concatenated parts)) e
            ∙ write_write u.out.now u.end part fits (concatenated parts) (omega arith)
            ∙ l.same;
        long = omega arith;
        kept = kept fits p.put ∙ b;
        room = r;
      }

pub ends : {t u : Text} {whole : List ℕ} → Left t u whole [] → Appends t u whole
ends {t} {u} {whole} l =
    let a = l.long in
    let b = l.kept in
    let r = l.room in
    record {
      same_buffer = l.same_buffer;
      put = record { same = sym (write_nothing u.out.now u.end) ∙ l.same; long = omega arith; within = omega arith };
    }

pub nothing : {t : Text} → HasRoom t [] → Appends t t []
nothing {t} r = ends (begins t [] r)
