use Rattle.base_little_endian.proofs.Same.{same_parts, same_none, same_word, same_last, same_eight}
use borrow.Author.Tests.{eqb-true}
use mathlib.Core.Path.{sym, ◌∙◌}
use native.Mathlib.Omega.{arith}
use Rattle.base_little_endian.proofs.same_bytes.Goals as goal

pub returns-then-n-lt8 : goal.returns-then-n-lt8
returns-then-n-lt8 c = λ e. same_parts _ _ _ _ (sym c.eq.ensures ∙ e)

pub loop-k-init : goal.loop-k-init
loop-k-init c = same_none _ _ _

pub loop-k-preserved : goal.loop-k-preserved
loop-k-preserved c = same_word c.args.s.now (λ i. (c.type_inv.s i).fits) _ _ _ c.loop-k.invariant (sym c.u64_inside.ensures ∙ c.if-u64_inside.false ∙ c.u64_inside-in-loop-k.ensures)

pub returns : goal.returns
returns c = λ e. same_last _ _ _ _ _ c.loop-k.invariant (omega arith) (omega arith) (same_eight c.args.s.now (λ i. (c.type_inv.s i).fits) _ _ (sym c.u64_inside-2.ensures ∙ eqb-true _ _ e ∙ c.u64_inside-3.ensures))
