-- A number's last digit, put behind the others. Assumes nothing.
use mathlib.Core.Path.{◌≡◌}
use Prim.Native.Nat.{ℕ}
use mathlib.Core.List.{List, [], ◌∷◌, ◌++◌}
use Rattle.listing_text.specs.Put.{HasRoom, Appends}
use Rattle.listing_text.specs.declared.text.Text.{Text}
use Rattle.listing_text.proofs.Putting.{Left, begins, fits, next, ends}

module _ (t : Text) {whole : List ℕ} (front : List ℕ) (d : ℕ) (whole_is : whole ≡ front ++ (d ∷ [])) (room : HasRoom t whole) where
  left : Left t t (front ++ (d ∷ [])) (front ∷ (d ∷ []) ∷ [])
  left = begins t (front ∷ (d ∷ []) ∷ []) (rw whole_is at room)

  pub front_fits : HasRoom t front
  front_fits = fits left

  module _ {u : Text} (p : Appends t u front) where
    pub last_fits : HasRoom u (d ∷ [])
    last_fits = fits (next left p)

    pub number : {v : Text} → Appends u v (d ∷ []) → Appends t v whole
    number q = rw whole_is (ends (next (next left p) q))
