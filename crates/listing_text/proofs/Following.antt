-- The loop along a chain: with the lines of the stops left, the text is whole. Assumes nothing.
use mathlib.Core.Path.{◌≡◌, refl}
use Prim.Native.Nat.{ℕ, zero, suc, ◌-◌, ◌<◌}
use native.Mathlib.Omega.{arith}
use mathlib.Core.List.{List, [], ◌∷◌}
use Rattle.lists.specs.Once.{Stops}
use Rattle.plan.specs.Read.{next_at, chain_from}
use Rattle.listing_text.specs.Text.{concatenated}
use Rattle.listing_text.specs.Put.{HasRoom, Appends}
use Rattle.listing_text.specs.declared.text.Text.{Text}
use Rattle.listing_text.specs.Listing.{stop_line, stop_lines}
use Rattle.listing_text.proofs.Putting.{Left, begins, fits, next, ends}

-- what follows a row in its chain
rest : List ℕ → ℕ → ℕ → ℕ → List ℕ
rest plan n zero row = []
rest plan n (suc links) row = chain_from plan n links (next_at plan n row)

chain_some : (plan : List ℕ) (n links row : ℕ) → (row ≡ 0 → ⊥) → chain_from plan n links row ≡ row ∷ rest plan n links row
unfolding chain_from rest
chain_some plan n links zero h = absurd (h refl)
chain_some plan n zero (suc row) h = refl
chain_some plan n (suc links) (suc row) h = refl

chain_none : (plan : List ℕ) (n links : ℕ) → chain_from plan n links 0 ≡ []
unfolding chain_from
chain_none plan n zero = refl
chain_none plan n (suc links) = refl

rest_none : (plan : List ℕ) (n row : ℕ) → rest plan n 0 row ≡ []
unfolding rest
rest_none plan n row = refl

rest_some : (plan : List ℕ) (n links row : ℕ) → (links ≡ 0 → ⊥) → rest plan n links row ≡ chain_from plan n (links - 1) (next_at plan n row)
unfolding rest
rest_some plan n zero row h = absurd (h refl)
rest_some plan n (suc links) row h = let e : suc links - 1 ≡ links = omega arith in rw e

-- of n rows: the text before and now, the whole of what is put, the links left, the next row
pub record Following (plan : List ℕ) (n : ℕ) (before after : Text) (whole : List ℕ) (links row : ℕ) : Type 0 where
  pub left : Left before after whole (stop_lines plan n (chain_from plan n links row))
  pub stops : Stops n (chain_from plan n links row)

pub starts : (plan : List ℕ) (n : ℕ) (t : Text) (links row : ℕ) → Stops n (chain_from plan n links row) → HasRoom t (concatenated (stop_lines plan n (chain_from plan n links row))) → Following plan n t t (concatenated (stop_lines plan n (chain_from plan n links row))) links row
starts plan n t links row o r = record { left = begins t (stop_lines plan n (chain_from plan n links row)) r; stops = o }

module _ {plan whole : List ℕ} {n links row : ℕ} {before after : Text} (f : Following plan n before after whole links row) where
  pub done : row ≡ 0 → Appends before after whole
  unfolding stop_lines
  done e = ends (rw (e, chain_none plan n links) at f.left)

  module _ (some : row ≡ 0 → ⊥) where
    here : Left before after whole (stop_line plan n row ∷ stop_lines plan n (rest plan n links row))
    unfolding stop_lines
    here = rw (chain_some plan n links row some) at f.left

    stops_here : Stops n (row ∷ rest plan n links row)
    stops_here = rw (chain_some plan n links row some) at f.stops

    pub row_in : row < n
    row_in = stops_here.0.1

    pub line_fits : HasRoom after (stop_line plan n row)
    line_fits = fits here

    module _ {u : Text} (p : Appends after u (stop_line plan n row)) where
      pub last : links ≡ 0 → Appends before u whole
      unfolding stop_lines
      last e = ends (rw (e, rest_none plan n row) at (next here p))

      pub goes_on : (links ≡ 0 → ⊥) → Following plan n before u whole (links - 1) (next_at plan n row)
      goes_on h = record {
        left = rw (rest_some plan n links row h) at (next here p);
        stops = rw (rest_some plan n links row h) at stops_here.1;
      }
