use Rattle.plan_full_form.proofs.Headers.{some_bands}
use Rattle.plan_full_form.proofs.start_count.Goals as goal

pub band_count-requires : goal.band_count-requires
band_count-requires c = some_bands _ _ c.read_header.ensures _ c.in_ok-screen.ensures.value
