-- `clarke_wright_savings::terms::same_back` meets its contract. Assumes nothing.
use Rattle.std.proofs.Common.{rules, arith, ℕ, ◌<◌, ◌∙◌}
use Rattle.std.proofs.lemmas.Grind.{get_or_default_zero}
use Rattle.std.proofs.lemmas.Iterator.{YieldsList-from_slice}
use Rattle.std.proofs.lemmas.Iterator.Adapters.{serves_from_places}
use Rattle.std.proofs.lemmas.Iterator.Search.{all_from_yields_List}
use borrow.Author.Tests.{tests}
use lib.Ieee.{eq}
use Rattle.sheet.specs.Fields.{rows_of}
use Rattle.sheet.specs.Values.{distance_of}
use Rattle.clarke_wright_savings.proofs.Symmetry.{same_over}
use Rattle.clarke_wright_savings.proofs.terms.same_back.Goals as goal

pub all-requires-clause-callable : goal.all-requires-clause-callable
all-requires-clause-callable c = let p = c.requires in
    serves_from_places (YieldsList-from_slice c.args.others.now (search rules)) (λ x q r. search rules) (λ x k h e. let row : x.now < rows_of c.args.sheet.now = omega (arith, p.row k h, e ∙ get_or_default_zero _ k _ h) in search rules)

pub returns : goal.returns
returns c = let s = c.args.sheet.now in
    let i = c.args.row in
    all_from_yields_List (λ (j : ℕ). eq (distance_of s i j) (distance_of s j i)) _ _ _ c.all.ensures.ran (YieldsList-from_slice c.args.others.now (search rules)) (λ x b q k. search (rules, tests))
    ∙ same_over s i c.args.others.now
