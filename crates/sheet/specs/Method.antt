-- docs/SCOPE.md#the-sheet. The methods by their numbers.
use Rattle.std.specs.Prelude.{◌≡◌, ℕ, ◌<◌, Result, MatchResult}
use Rattle.sheet.specs.declared.refusal.Refusal.{Refusal}
use Rattle.sheet.specs.declared.method.Method.{Method}
use Rattle.sheet.specs.declared.method.Method.TheVariants.{Savings, Insertion, NearestNeighbor, NearestNeighborTw, Sweep}

abbrev pub code_of : Method → ℕ
code_of Savings = 0
code_of Insertion = 1
code_of NearestNeighbor = 2
code_of NearestNeighborTw = 3
code_of Sweep = 4

-- a byte's method, or refusal 3: "method above 4"
abbrev pub Decodes : ℕ → Result Method Refusal → Type 0
Decodes byte r = MatchResult r (λ method. code_of method ≡ byte) (λ refusal. (refusal ≡ Refusal.Method) × (4 < byte))
