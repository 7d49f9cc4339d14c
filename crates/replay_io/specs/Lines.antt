-- The lines that a replay prints.
use Rattle.std.specs.Prelude.{ℕ, suc, ◌/◌, ◌%◌, false, List, [], ◌∷◌, ◌++◌, take, ℤ, pos, negsuc, codes, if◌then◌else◌, ◌==◌}
use Rattle.std.specs.List.{flat_map}
use Rattle.std.specs.Fmt.{decimal, digit_glyph}
use Rattle.replay_io.specs.declared.record.Ending.{Ending}
use Rattle.replay_io.specs.declared.record.Ending.TheVariants.{Done, Cut, Unknown, Unwritten}

-- a number in decimal, and the line's end
abbrev pub number_line : ℕ → List ℕ
number_line n = decimal n ++ (10 ∷ [])

abbrev pub refused_line : ℕ → List ℕ
refused_line number = codes "refused " ++ number_line number

-- two digits for each byte
abbrev pub hex_pair : ℕ → List ℕ
hex_pair b = digit_glyph false (b / 16) ∷ digit_glyph false (b % 16) ∷ []

abbrev pub hex_text : List ℕ → List ℕ
hex_text bytes = flat_map hex_pair bytes

abbrev pub bytes_line : List ℕ → List ℕ
bytes_line bytes = hex_text bytes ++ (10 ∷ [])

-- the answer of a call that refuses by a number above 0
abbrev pub answer_line : ℕ → List ℕ → List ℕ
answer_line number bytes = if number == 0 then bytes_line bytes else refused_line number

-- the answer of a call that refuses by -N, and else counts the bytes that it wrote
abbrev pub counted_line : ℤ → List ℕ → List ℕ
counted_line (pos n) room = bytes_line (take n room)
counted_line (negsuc n) room = refused_line (suc n)

-- what is printed where a run ends: at the end of its input, and where no more can be written, nothing
abbrev pub ending_line : Ending → List ℕ
ending_line Done = []
ending_line Cut = codes "cut" ++ (10 ∷ [])
ending_line (Unknown kind) = codes "unknown kind " ++ number_line kind
ending_line Unwritten = []
