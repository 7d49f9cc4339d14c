-- `clarke_wright_savings::terms::symmetric_among` meets its contract. Assumes nothing.
use Rattle.std.proofs.Common.{rules, arith, ap, ◌≡◌, ℕ, ◌+◌, ◌<◌, ◌∙◌, length}
use Rattle.std.proofs.lemmas.List.FromFn.{length-enumerate_from, get_or-enumerate_from}
use Rattle.std.proofs.lemmas.Grind.{get_or_default_zero}
use Rattle.std.proofs.lemmas.List.{take_rest}
use Rattle.std.proofs.lemmas.Iterator.{YieldsList-from_slice}
use Rattle.std.proofs.lemmas.Iterator.Consumers.{YieldsList-from_enumerate}
use Rattle.std.proofs.lemmas.Iterator.Adapters.{serves_from_places}
use Rattle.std.proofs.lemmas.Iterator.Search.{all_from_yields_List}
use borrow.Author.Tests.{tests}
use lib.ListN.{drop}
use Rattle.sheet.specs.Fields.{rows_of}
use Rattle.clarke_wright_savings.specs.Savings.{same_back, symmetric}
use Rattle.clarke_wright_savings.proofs.Symmetry.{symmetric_over, behind}
use Rattle.clarke_wright_savings.proofs.terms.symmetric_among.Goals as goal

pub all-requires-clause-callable : goal.all-requires-clause-callable
all-requires-clause-callable c = let p = c.requires in
    serves_from_places (YieldsList-from_enumerate (YieldsList-from_slice c.args.members.now (search rules)) (search rules)) (λ x q r. search rules) (λ x k h e.
    let within : k < length c.args.members.now = omega (arith, h, length-enumerate_from 0 c.args.members.now) in
    let place = e ∙ get_or-enumerate_from 0 c.args.members.now k _ within in
    let at : x.0 ≡ k = omega (arith, ap (λ q. q.0) place) in
    let row : x.1.now < rows_of c.args.sheet.now = omega (arith, p.row k within, ap (λ q. q.1) place ∙ get_or_default_zero _ k _ within) in
    let inside : x.0 < length c.args.members.now = omega (arith, at, within) in
    let rest = behind p x.1.now row (x.0 + 1) (omega arith) in
    (search rules, search rules, search rules, search rules, search rules, search rules))

pub returns-then-same_back : goal.returns-then-same_back
unfolding symmetric
returns-then-same_back c = let s = c.args.sheet.now in
    let rows = c.args.members.now in
    let first : c.same_back.result ≡ same_back s c.args.depot rows = c.same_back.ensures in
    let rest = all_from_yields_List (λ (p : ℕ × ℕ). same_back s p.1 (drop (p.0 + 1) rows)) _ _ _ c.all.ensures.ran (YieldsList-from_enumerate (YieldsList-from_slice rows (search rules)) (search rules)) (λ x b q k. search (rules, tests, take_rest)) ∙ symmetric_over s rows in
    rw (← first, c.if-same_back.true) rest

pub returns-else-same_back : goal.returns-else-same_back
unfolding symmetric
returns-else-same_back c = rw (← c.same_back.ensures, c.if-same_back.false)
