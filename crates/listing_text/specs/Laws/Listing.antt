-- Laws of numbers as text, and what it means that nothing is refused early. Assumes nothing.
use Rattle.std.specs.Prelude.{◌≡◌, refl, ℕ, zero, suc, ◌+◌, ◌-◌, ◌/◌, ◌%◌, ◌^◌, ◌≤◌, ◌<◌, Bool, true, false, cond, List, [], ◌∷◌, ◌++◌, ltb, leb, length}
use Rattle.std.proofs.Common.{ap, ◌∙◌, suc-ne-zero, add-one, arith, length-append, lt-ltb, le-ltb, ltb-true, ltb-false, leb-true}
use Rattle.std.proofs.Math.Nat.{pow-zero, pow-succ'}
use Rattle.sheet.specs.Fields.{rows_of}
use Rattle.sheet.specs.Refusal.{header_right, unless}
use Rattle.sheet.specs.Laws.Accepted.{header_of}
use Rattle.listing_text.specs.Text.{digit_of, decimal_in, decimal, hex_in}
use Rattle.listing_text.specs.Listing.{listing_refusal}

-- the digits of a number are the same whatever they are bounded by
decimal_in_lem : (a b n : ℕ) → n < a → n < b → decimal_in a n ≡ decimal_in b n
unfolding decimal_in
decimal_in_lem zero b n h k = absurd (omega arith)
decimal_in_lem (suc a) zero n h k = absurd (omega arith)
decimal_in_lem (suc a) (suc b) n h k = go (ltb n 10) refl (λ p q. decimal_in_lem a b (n / 10) p q)
  where
    go : (t : Bool) → ltb n 10 ≡ t → (n / 10 < a → n / 10 < b → decimal_in a (n / 10) ≡ decimal_in b (n / 10)) → cond (ltb n 10) (digit_of n ∷ []) (decimal_in a (n / 10) ++ (digit_of (n % 10) ∷ [])) ≡ cond (ltb n 10) (digit_of n ∷ []) (decimal_in b (n / 10) ++ (digit_of (n % 10) ∷ []))
    go true e f = rw e
    go false e f = let l = ltb-false n 10 e in rw (f (omega arith) (omega arith))

pub decimal_low : (n : ℕ) → n < 10 → decimal n ≡ digit_of n ∷ []
unfolding decimal decimal_in
decimal_low n h = rw (add-one n, lt-ltb n 10 h)

pub decimal_high : (n : ℕ) → 10 ≤ n → decimal n ≡ decimal (n / 10) ++ (digit_of (n % 10) ∷ [])
unfolding decimal decimal_in
decimal_high n h = rw (add-one n, le-ltb n 10 h) (ap (λ (l : List ℕ). l ++ (digit_of (n % 10) ∷ [])) (decimal_in_lem n (n / 10 + 1) (n / 10) (omega arith) (omega arith)))

-- a number below 10 ^ k has at most k digits, where k is not 0
pub decimal_short : (k n : ℕ) → n < 10 ^ suc k → length (decimal n) ≤ suc k
decimal_short zero n h = rw (decimal_low n (omega (arith, pow-succ' 10 0, pow-zero 10))) (omega arith)
decimal_short (suc k) n h = go (ltb n 10) refl (λ l. decimal_short k (n / 10) l)
  where
    go : (t : Bool) → ltb n 10 ≡ t → (n / 10 < 10 ^ suc k → length (decimal (n / 10)) ≤ suc k) → length (decimal n) ≤ suc (suc k)
    go true e f = rw (decimal_low n (ltb-true n 10 e)) (omega arith)
    go false e f = let l = f (omega (arith, pow-succ' 10 (suc k))) in rw (decimal_high n (ltb-false n 10 e), length-append) (omega arith)

pub hex_long : (k n : ℕ) → length (hex_in k n) ≡ k
unfolding hex_in
hex_long zero n = refl
hex_long (suc k) n = length-append (hex_in k (n / 16)) (digit_of (n % 16) ∷ []) ∙ let e = hex_long k (n / 16) in omega arith

pub hex_none : (n : ℕ) → hex_in 0 n ≡ []
unfolding hex_in
hex_none n = refl

pub hex_more : (k n : ℕ) → (k ≡ 0 → ⊥) → hex_in k n ≡ hex_in (k - 1) (n / 16) ++ (digit_of (n % 16) ∷ [])
unfolding hex_in
hex_more zero n h = absurd (h refl)
hex_more (suc k) n h = let e : suc k - 1 ≡ k = omega arith in rw e

-- a sheet that is not refused before it is planned
pub not_early : (s : List ℕ) → listing_refusal s 0 ≡ 0 → (16 ≤ length s) × (rows_of s ≤ 48)
unfolding listing_refusal
not_early s e = go (header_right s) refl (leb (rows_of s) 48) refl e
  where
    go : (a : Bool) → header_right s ≡ a → (b : Bool) → leb (rows_of s) 48 ≡ b → unless a 1 (unless b 2 0) ≡ 0 → (16 ≤ length s) × (rows_of s ≤ 48)
    go true h true k f = ((header_of s (rw h tt)).0, leb-true (rows_of s) 48 k)
    go true h false k f = absurd (omega arith)
    go false h b k f = absurd (omega arith)

-- what is refused early is refused whatever is told later, and else what is told stands
pub early_stands : (s : List ℕ) (told : ℕ) → (listing_refusal s 0 ≡ 0 → ⊥) → listing_refusal s told ≡ listing_refusal s 0
unfolding listing_refusal
early_stands s told h = go (header_right s) (leb (rows_of s) 48) h
  where
    go : (a b : Bool) → (unless a 1 (unless b 2 0) ≡ 0 → ⊥) → unless a 1 (unless b 2 told) ≡ unless a 1 (unless b 2 0)
    go false b h = refl
    go true false h = refl
    go true true h = absurd (h refl)

pub told_stands : (s : List ℕ) (told : ℕ) → listing_refusal s 0 ≡ 0 → listing_refusal s told ≡ told
unfolding listing_refusal
told_stands s told e = go (header_right s) (leb (rows_of s) 48) e
  where
    go : (a b : Bool) → unless a 1 (unless b 2 0) ≡ 0 → unless a 1 (unless b 2 told) ≡ told
    go false b e = absurd (suc-ne-zero 0 e)
    go true false e = absurd (suc-ne-zero 1 e)
    go true true e = refl
