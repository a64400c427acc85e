-- Two wrong planners of the reviewer's list, each told from the entries by demand 3.
use Rattle.std.specs.Prelude.{List, []}
use Rattle.std.proofs.Math.Option.{Option, none, some}
use Rattle.compositor_screen.specs.Sizes.{screen}
use Rattle.compositor_device.specs.declared.DeviceRegion.{DeviceRegion}
use Rattle.panels.specs.Panels.{Planner, PanelsAgree}
use Rattle.panels_examples.specs.Frames.{P}

abbrev pub first_only : Option P.Strip → List DeviceRegion → List DeviceRegion
first_only none regions = regions
first_only (some old) regions = []

-- "the one that plans frame one and reports later turns unchanged"
abbrev pub quiet : Planner
quiet =
    record {
      Strip = P.Strip;
      Space = P.Space;
      accepted = P.accepted;
      commands = P.commands;
      regions = λ last s z. first_only last (P.regions last s z);
      words = P.words;
    }

-- "the one that reports no region and writes nothing": the words lent stay as they were
abbrev pub mute : Planner
mute =
    record {
      Strip = P.Strip;
      Space = P.Space;
      accepted = P.accepted;
      commands = P.commands;
      regions = λ last s z. [];
      words = λ last s z. z.words;
    }

pub record ToldApart : Type 1 where
  pub entries_keep : PanelsAgree (screen 8 8 4) P
  pub quiet_breaks : PanelsAgree (screen 8 8 4) quiet → ⊥
  pub mute_breaks : PanelsAgree (screen 8 8 4) mute → ⊥
