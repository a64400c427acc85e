use Rattle.std.specs.Prelude.{Ok}
use Rattle.std.proofs.lemmas.Result.{err_from_is_err_and}
use mathlib.Core.Path.{◌≡◌, sym, ap, ◌∙◌}
use Rattle.strip_frame.specs.Frame.{old_of}
use Rattle.strip_frame.proofs.Checks.{strips_next, strips_refused}
use Rattle.strip_frame.proofs.read_strips.Goals.{in-First, in-Next+in_ok-old-in-Next}
use Rattle.strip_frame.proofs.read_strips.Goals as goal

pub returns-in_err-old-in-Next : goal.returns-in_err-old-in-Next
returns-in_err-old-in-Next c =
    let p = err_from_is_err_and c.from_residual.result c.from_residual.ensures.1 in
    rw (c.in-Next.is, p.1, p.2) (strips_refused _ c.args.s.now _ (sym c.in_err-old-in-Next.ensures))

pub returns : goal.returns
returns c =
    let e : old_of c.args.entry c.args.s.now ≡ Ok c.match-entry.old =
    elim c.match-entry.branch [
      | in-First w ↦ rw w.in-First.is (ap Ok (sym (w.old-is ∙ w.start-old.ensures)))
      | in-Next+in_ok-old-in-Next w ↦ rw w.in-Next.is (sym w.in_ok-old-in-Next.ensures ∙ ap Ok (sym w.old-is))
    ] in
    c.new_strip.ensures ∙ strips_next _ _ _ e
