-- `cosine` meets its contract: the code's table is that of the definitions, whose entries meet the rule, and past its end there is 0.
use Rattle.std.proofs.Common.{◌≡◌, refl, sym, ap, ◌∙◌, subst, List, ℕ, ℤ, pos, w32, rules}
use lib.ListN.{get_or}
use Rattle.integer.proofs.Laws.{read_back}
use Rattle.cosine.specs.Cosine.{cosines, cosine, Entry}
use Rattle.cosine.proofs.CosineLaws.{cosine-entry}
use Rattle.cosine.proofs.cosine.Goals as goal

-- what stands at place m of a list that is the table
at : (xs : List ℤ) → xs ≡ cosines → (m : ℕ) → get_or xs m (pos 0) ≡ cosine m
unfolding cosine
at xs e m = ap (λ (t : List ℤ). get_or t m (pos 0)) e

pub returns : goal.returns
unfolding cosines
returns c =
    let m = c.args.m in
    let e : c.unwrap_or.result ≡ get_or cosines m (pos 0) = search rules in
    subst (λ (z : ℤ). Entry m z) (sym (read_back w32 c.unwrap_or.type_inv (e ∙ at _ refl m))) (cosine-entry m)
