-- What the listing program prints: of a refused sheet, and of an input that is longer than any sheet that it lists. Assumes nothing.
use Rattle.std.specs.Prelude.{◌≡◌, ℕ, zero, suc, ◌+◌, ◌*◌, ◌≤◌, ◌<◌, Bool, ◌&&◌, List, length, take, get_or}
use Rattle.std.proofs.Math.Path.{refl, ap}
use Rattle.std.proofs.Common.{sym, ◌∙◌, suc-ne-zero, mul-le-mul, arith, get_or-take}
use Rattle.std.proofs.Math.Bool.{true, false}
use Rattle.std.proofs.Math.Dec.{leb, eqb}
use Rattle.std.proofs.Math.ListN.{length-take}
use borrow.Author.Tests.{le-leb, leb-true, ne_eqb}
use Rattle.wire.specs.Bytes.{le}
use Rattle.wire.specs.Laws.Bytes.{le_alike}
use Rattle.sheet.specs.Fields.{rows_of, vehicles_of, method_of, times_of, spare_of, header_size, sheet_length, plan_length}
use Rattle.sheet.specs.Refusal.{header_right, counts_right, method_right, lengths_right, unless, contents, refusal_of}
use Rattle.sheet.specs.Laws.Accepted.{header_of, counts_of}
use Rattle.listing_text.specs.Listing.{listing_rows, listing_of, refused_text, listing_refusal}
use Rattle.planner.specs.Answer.{plan_for}
use Rattle.listing.specs.Answer.{listing_room, answer_text, listed_text}

pub answer_listed : (s plan : List ℕ) → answer_text 0 s plan ≡ listing_of s plan
unfolding answer_text
answer_listed s plan = refl

pub answer_refused : (n : ℕ) (s plan : List ℕ) → (n ≡ 0 → ⊥) → answer_text n s plan ≡ refused_text n
unfolding answer_text
answer_refused zero s plan h = absurd (h refl)
answer_refused (suc n) s plan h = refl

-- ---- an input longer than any sheet that is listed
-- its number goes by four tests of the header, since 4 holds where none of them does
abbrev told : Bool → Bool → Bool → Bool → ℕ
told header few counts method = unless header 1 (unless few 2 (unless header 1 (unless counts 2 (unless method 3 4))))

told_some : (a b c d : Bool) → told a b c d ≡ 0 → ⊥
told_some false b c d e = suc-ne-zero 0 e
told_some true false c d e = suc-ne-zero 1 e
told_some true true false d e = suc-ne-zero 1 e
told_some true true true false e = suc-ne-zero 2 e
told_some true true true true e = suc-ne-zero 3 e

module _ (s : List ℕ) (long : listing_room ≤ length s) where
  over_long : header_right s ≡ true → leb (rows_of s) listing_rows ≡ true → counts_right s ≡ true → sheet_length s < length s
  over_long a b c =
      let h = header_of s (rw a tt) in
      let n = counts_of s (rw c tt) in
      let r = leb-true (rows_of s) listing_rows b in
      let square : rows_of s * rows_of s ≤ listing_rows * listing_rows = mul-le-mul r r in
      let t : 1 + times_of s ≤ 2 = omega (arith, h.1) in
      let all : (1 + times_of s) * (rows_of s * rows_of s) ≤ 2 * (listing_rows * listing_rows) = mul-le-mul t square in
      omega (arith, all, r, n.1)

  number_long : listing_refusal s (refusal_of s (plan_length s)) ≡ told (header_right s) (leb (rows_of s) listing_rows) (counts_right s) (method_right s)
  unfolding listing_refusal refusal_of lengths_right
  number_long = go (header_right s) refl (leb (rows_of s) listing_rows) refl (counts_right s) refl (method_right s)
    where
      go : (a : Bool) → header_right s ≡ a → (b : Bool) → leb (rows_of s) listing_rows ≡ b → (c : Bool) → counts_right s ≡ c → (d : Bool)
          → unless a 1 (unless b 2 (unless a 1 (unless c 2 (unless d 3 (unless (eqb (length s) (sheet_length s) && eqb (plan_length s) (plan_length s)) 4 (contents s)))))) ≡ told a b c d
      go false h b k c l d = refl
      go true h false k c l d = refl
      go true h true k false l d = refl
      go true h true k true l false = refl
      go true h true k true l true = rw (ne_eqb (length s) (sheet_length s) (λ e. omega (arith, over_long h k l, e)))

  listed_long : listed_text s ≡ refused_text (told (header_right s) (leb (rows_of s) listing_rows) (counts_right s) (method_right s))
  unfolding listed_text
  listed_long =
      ap (λ (n : ℕ). answer_text n s (plan_for s)) number_long
      ∙ answer_refused (told (header_right s) (leb (rows_of s) listing_rows) (counts_right s) (method_right s)) s (plan_for s) (told_some (header_right s) (leb (rows_of s) listing_rows) (counts_right s) (method_right s))

-- ---- the header of its beginning is its own
module _ (s : List ℕ) (n : ℕ) (h : header_size ≤ n) (long : n ≤ length s) where
  front : (m at : ℕ) → at + m ≤ header_size → le m (take n s) at ≡ le m s at
  front m at k = le_alike m (take n s) s at (λ i l u. get_or-take n s i 0 (omega arith))

  byte_front : (at : ℕ) → at < header_size → get_or (take n s) at 0 ≡ get_or s at 0
  byte_front at k = get_or-take n s at 0 (omega arith)

  rows_front : rows_of (take n s) ≡ rows_of s
  unfolding rows_of
  rows_front = front 2 0 (omega arith)

  header_front : header_right (take n s) ≡ header_right s
  unfolding header_right times_of spare_of
  header_front =
      rw (byte_front 5 (omega arith), front 10 6 (omega arith), le-leb header_size (length (take n s)) (omega (arith, length-take n s)), le-leb header_size (length s) (omega arith))

  counts_front : counts_right (take n s) ≡ counts_right s
  unfolding counts_right rows_of vehicles_of
  counts_front = rw (front 2 0 (omega arith), front 2 2 (omega arith))

  method_front : method_right (take n s) ≡ method_right s
  unfolding method_right method_of
  method_front = rw (byte_front 4 (omega arith))

-- what is read of a longer input, its first `listing_room` bytes, has the text of the whole
pub listed_cut : (s : List ℕ) → listing_room ≤ length s → listed_text (take listing_room s) ≡ listed_text s
listed_cut s long =
    let t = take listing_room s in
    let e : listing_room ≤ length t = omega (arith, length-take listing_room s) in
    let h : header_size ≤ listing_room = omega arith in
    listed_long t e
    ∙ rw (header_front s listing_room h long, rows_front s listing_room h long, counts_front s listing_room h long, method_front s listing_room h long)
    (sym (listed_long s long))
