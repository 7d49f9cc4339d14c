-- docs/SCOPE.md#the-methods. Document 01, "solomon_i1.rs": "the first least insertion wins".
use Rattle.std.specs.Prelude.{ℕ, suc, ◌+◌, cond, List, [], ◌∷◌, length, None}
use Rattle.constructive.specs.declared.terms.Terms.{Terms}
use Rattle.insertion.specs.Choice.{Choice}
use Rattle.insertion.specs.Place.{try_places, carries}

-- ---- one choice
-- "from before its first stop to after its last"
abbrev pub try_stop : List ℕ → Terms → List ℕ → Choice → ℕ → ℕ → Choice
try_stop s t route c j row = cond (carries s t route row) (try_places s t route j row c (suc (length route)) 0) c

-- the stops unrouted, from place j on
unfoldable pub try_stops : List ℕ → Terms → List ℕ → Choice → ℕ → List ℕ → Choice
try_stops s t route c j [] = c
try_stops s t route c j (row ∷ rows) = try_stops s t route (try_stop s t route c j row) (j + 1) rows

abbrev pub best_of : List ℕ → Terms → List ℕ → List ℕ → Choice
best_of s t route left = try_stops s t route None 0 left
