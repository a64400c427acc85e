use Rattle.plan_frame_drafts.proofs.Inputs.{zero_whole}
use Rattle.plan_frame_drafts.proofs.screen_rect.Goals as goal

pub returns : goal.returns
returns c = λ i. record { x0 = zero_whole i; y0 = zero_whole i; x1 = c.from.ensures i; y1 = c.from-2.ensures i }
