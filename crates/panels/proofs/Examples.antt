-- What is asked of the entries can be met: a planner whose strips are lists of commands, and whose space is the index words lent behind its own.
-- Assumes nothing.
use mathlib.Core.Path.{◌≡◌, refl}
use mathlib.Core.Bool.{true}
use mathlib.Core.List.{List, ◌++◌, map}
use Prim.Native.Nat.{ℕ}
use Rattle.base_lists.specs.Members.{All}
use Rattle.display_list_commands.specs.Bounds.{Command, bounds}
use Rattle.compositor_rows.specs.Rows.{row_count}
use Rattle.compositor_index_words.specs.Index.{index_words}
use Rattle.compositor_scheduler.specs.Schedule.{schedule}
use Rattle.panels_painting.proofs.Alike.{Sound}
use Rattle.panels.specs.Panels.{Planner, PanelsAgree}
use Rattle.panels.proofs.Plans.{boxes_since, Plans}
use Rattle.panels.proofs.Panels.{plans_agree}
use Rattle.compositor_screen.specs.declared.Screen.{Screen}
use Rattle.compositor_screen.specs.Sizes.{fits}

record Listed : Type 0 where
  commands : List Command
  sound : All Sound commands

module _ (screen : Screen) where
  listing : Planner
  listing = record {
    Strip = Listed;
    Space = List ℕ;
    accepted = λ last s z. true;
    commands = λ s. s.commands;
    regions = λ last s z. schedule screen (boxes_since (λ (t : Listed). t.commands) screen last s);
    words = λ last s z. index_words screen.band_height (row_count screen.height screen.band_height) (map bounds s.commands) ++ z;
  }

  listing_plans : fits screen ≡ true → Plans screen listing (λ s. Unit {0})
  unfolding listing
  listing_plans z = record {
    sizes = λ last s x c. z;
    one_strip = λ last s x c. tt;
    sound = λ last s x c. s.sound;
    regions = λ last s x c. refl;
    words = λ last s x c. (x, refl);
  }

  listing_agrees : fits screen ≡ true → PanelsAgree screen listing
  listing_agrees z = plans_agree screen listing (λ s. Unit {0}) (listing_plans z)
