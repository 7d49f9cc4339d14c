-- A sheet's refusal by its form, refusals 1 to 4, and its contents. Assumes nothing.
use Rattle.std.specs.Prelude.{◌≡◌, refl, ℕ, ◌<◌, Bool, true, false, List}
use Rattle.std.proofs.Common.{sym, subst, arith}
use Rattle.std.proofs.Math.Dec.{T}
use Rattle.sheet.specs.Refusal.{header_right, counts_right, method_right, lengths_right, unless, contents, form, refusal_of}
use Rattle.sheet.specs.Accepted.{Sized}
use Rattle.sheet.specs.Laws.Accepted.{sized}

-- no refusal of the form
pub record Formed (s : List ℕ) (m : ℕ) : Type 0 where
  pub header : header_right s ≡ true
  pub counts : counts_right s ≡ true
  pub method : method_right s ≡ true
  pub lengths : lengths_right s m ≡ true

module _ (s : List ℕ) (m : ℕ) where
  pub formed : form s m ≡ 0 → Formed s m
  unfolding form
  formed = go (header_right s) (counts_right s) (method_right s) (lengths_right s m) refl refl refl refl
    where
      go : (a b c d : Bool) → header_right s ≡ a → counts_right s ≡ b → method_right s ≡ c → lengths_right s m ≡ d → unless a 1 (unless b 2 (unless c 3 (unless d 4 0))) ≡ 0 → Formed s m
      go false b c d e f g h z = absurd (omega arith)
      go true false c d e f g h z = absurd (omega arith)
      go true true false d e f g h z = absurd (omega arith)
      go true true true false e f g h z = absurd (omega arith)
      go true true true true e f g h z = record { header = e; counts = f; method = g; lengths = h }

  pub form_sized : form s m ≡ 0 → Sized s
  form_sized z = let f = formed z in sized s m (subst T (sym f.header) tt) (subst T (sym f.counts) tt) (subst T (sym f.lengths) tt)

  pub form_told : {n : ℕ} → 0 < n → n ≡ form s m → n ≡ refusal_of s m
  unfolding form refusal_of
  form_told {n} h = go (header_right s) (counts_right s) (method_right s) (lengths_right s m)
    where
      go : (a b c d : Bool) → n ≡ unless a 1 (unless b 2 (unless c 3 (unless d 4 0))) → n ≡ unless a 1 (unless b 2 (unless c 3 (unless d 4 (contents s))))
      go false b c d e = e
      go true false c d e = e
      go true true false d e = e
      go true true true false e = e
      go true true true true e = absurd (omega arith)

  pub form_past : form s m ≡ 0 → contents s ≡ refusal_of s m
  unfolding refusal_of
  form_past z = let f = formed z in rw (f.header, f.counts, f.method, f.lengths)
