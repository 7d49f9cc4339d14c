-- Words and numbers as text, in ASCII.
use Rattle.std.specs.Prelude.{ℕ, zero, suc, ◌+◌, ◌/◌, ◌%◌, cond, List, [], ◌∷◌, ◌++◌, ltb}
use Prim.Native.Char.{code}
use Prim.Native.String.{String, [] as nothing, ◌∷◌ as ◌before◌}

-- the bytes of a quoted text
abbrev pub text : String → List ℕ
text nothing = []
text (c before cs) = code c ∷ text cs

-- parts one after another
abbrev pub concatenated : List (List ℕ) → List ℕ
concatenated [] = []
concatenated (part ∷ parts) = part ++ concatenated parts

-- a digit below 16, in upper case
abbrev pub digit_of : ℕ → ℕ
digit_of d = cond (ltb d 10) (48 + d) (55 + d)

-- the last digits of a number in decimal, without leading zeros: at most as many as the first argument says
unfoldable pub decimal_in : ℕ → ℕ → List ℕ
decimal_in zero n = []
decimal_in (suc most) n =
    let longer = decimal_in most (n / 10) ++ (digit_of (n % 10) ∷ []) in
    cond (ltb n 10) (digit_of n ∷ []) longer

-- all of them: there are no more than n + 1
unfoldable pub decimal : ℕ → List ℕ
decimal n = decimal_in (n + 1) n

-- the last k digits of a number in hexadecimal
unfoldable pub hex_in : ℕ → ℕ → List ℕ
hex_in zero n = []
hex_in (suc k) n = hex_in k (n / 16) ++ (digit_of (n % 16) ∷ [])

-- those of a word of 64 bits
abbrev pub hex16 : ℕ → List ℕ
hex16 n = hex_in 16 n
