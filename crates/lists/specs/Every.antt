-- What holds of every element of a list.
use Rattle.std.specs.Prelude.{List, [], ◌∷◌}

-- ---- every element
abbrev pub Every : {A : Type 0} → (A → Type 0) → List A → Type 0
Every P [] = Unit
Every P (x ∷ xs) = P x × Every P xs
