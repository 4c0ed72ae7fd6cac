-- `ring_sum` meets its contract: after i turns e is i steps about the vertex from c, and the sum has the terms passed.
use Rattle.std.proofs.Common.{refl, sym, ap, ap₂, ◌∙◌, ℕ, ◌^◌, ◌≤◌, arith, w64, ℤ, pos, nat_abs, ◌+ℤ◌, FitsSigned, to_z, of_z, ◌≡◌}
use mir.Facts.{to_z-of_z}
use Rattle.integer.proofs.Laws.{read_back, sfits-+}
use native.Mathlib.Nat.{le_antisymm}
use Rattle.finite.specs.Fold.{sum_below_ℤ}
use Rattle.finite.proofs.FoldLaws.{fold-zero, fold_step}
use Rattle.corner.specs.Corner.{prev}
use Rattle.control.specs.Control.{link_at}
use Rattle.tangent.specs.Told.{term_at}
use Rattle.tangent.proofs.RingLaws.{partial-size, next-turned, turned-start}
use Rattle.tangent.proofs.ring.Tables.ring_sum.Goals.{At-loop-i, After-term-sum}
use Rattle.tangent.proofs.ring.Tables.ring_sum.Goals as goal

-- ---- at the loop's head: the sum so far
module _ (l : At-loop-i) where
  abbrev terms : ℕ → ℤ
  terms = term_at l.args.self.values.now l.args.self.twins.now l.args.n l.args.k l.args.c

  size : nat_abs (sum_below_ℤ terms l.loop-i.i) ≤ 2 ^ 47
  size =
      partial-size l.args.self.small l.args.self.twins.now l.args.n l.args.k l.args.c l.loop-i.i (omega (arith, l.loop-i.invariant.most, l.requires))

-- ---- one term more
module _ (d : After-term-sum) where
  abbrev head : At-loop-i
  head = (goal.at.After-term-sum d).At-loop-i

  abbrev more : ℤ
  more = sum_below_ℤ (terms head) d.loop-i.i +ℤ d.term-sum.result

  sum-is : to_z w64 d.loop-i.sum-bits +ℤ to_z w64 (of_z w64 d.term-sum.result) ≡ more
  sum-is = ap₂ ◌+ℤ◌ d.loop-i.invariant.sums (read_back w64 d.term-sum.type_inv refl)

  more-fits : FitsSigned w64 more
  more-fits = sfits-+ (sum_below_ℤ (terms head) d.loop-i.i) d.term-sum.result (omega (arith, size head, d.term-sum.ensures.1))

-- ---- the answers, in the order of the code
pub loop-i-init : goal.loop-i-init
loop-i-init s = record {
  most = omega arith;
  here = sym (turned-start s.args.self.twins.now s.args.c);
  sums = sym (fold-zero (pos 0) ◌+ℤ◌ _);
}

pub overflow_add-sum : goal.overflow_add-sum
overflow_add-sum d = rw (sum-is d) (more-fits d)

pub loop-i-preserved : goal.loop-i-preserved
loop-i-preserved d =
    let h = (goal.at.loop-i-preserved d).At-loop-i in
    let a = (goal.at.loop-i-preserved d).After-term-sum in
    record {
      most = omega arith;
      here = d.around-e.ensures ∙ ap (λ (e : ℕ). link_at d.args.self.twins.now (prev e)) d.loop-i.invariant.here
          ∙ next-turned d.args.self.twins.now d.args.c d.loop-i.i;
      sums =
          ap (λ (z : ℤ). to_z w64 (of_z w64 z)) (sum-is a)
          ∙ to_z-of_z (more-fits a)
          ∙ ap (λ (z : ℤ). sum_below_ℤ (terms h) d.loop-i.i +ℤ z) (rw d.loop-i.invariant.here at d.term-sum.ensures.0)
          ∙ sym (fold_step (pos 0) ◌+ℤ◌ (terms h) d.loop-i.i);
    }

pub returns : goal.returns
returns d =
    let h = (goal.at.returns d).At-loop-i in
    let all = le_antisymm d.loop-i.invariant.most d.loop-i-test.false in
    (d.loop-i.invariant.sums ∙ ap (sum_below_ℤ (terms h)) all, rw d.loop-i.invariant.sums (size h))
