-- The commands that lent space holds. A command is not copied out of the strip: its words are where its bytes begin and its clip number, and its box
-- stands beside them. `s` is the input, `bs` and `ns` the clips' boxes and numbers, `is` and `ibs` the commands' words and boxes.
use Rattle.std.specs.Prelude.{◌≡◌, List, [], ◌∷◌, ℕ, zero, suc, ◌*◌, ◌≤◌, ◌<◌, length, Float}
use Rattle.display_list_commands.specs.Bounds.{Command, bounds}
use Rattle.display_list_clips.specs.Chains.{chain, Clips}
use Rattle.display_list.specs.Lists.{offset_at, clip_number_at}
use Rattle.strip.specs.Reading.{command_of}
use Rattle.strip_laws.specs.Limits.{WholeCommand}
use Rattle.base_rect_words.specs.Words.{box_at}

-- the command at place i: what stands at its offset, under the clips up to its clip number
abbrev pub command_in : List ℕ → List Float → List ℕ → List ℕ → ℕ → Command
command_in s bs ns is i = command_of s (offset_at is i) (chain bs ns (clip_number_at is i))

-- the n commands from place i on
unfoldable pub commands_in : List ℕ → List Float → List ℕ → List ℕ → ℕ → ℕ → List Command
commands_in s bs ns is i zero = []
commands_in s bs ns is i (suc n) = command_in s bs ns is i ∷ commands_in s bs ns is (suc i) n

-- the space holds n commands: there is room for them, each stands whole in the input under clips that are held, and its box stands beside it
pub record Stored (n : ℕ) (s : List ℕ) (bs : List Float) (ns is : List ℕ) (ibs : List Float) : Type 0 where
  pub used : ℕ
  pub clips : Clips used bs ns
  pub items : 2 * n ≤ length is
  pub boxes : 4 * n ≤ length ibs
  pub lower : (i : ℕ) → i < n → clip_number_at is i ≤ used
  pub whole : (i : ℕ) → i < n → WholeCommand s (offset_at is i)
  pub boxed : (i : ℕ) → i < n → box_at ibs i ≡ bounds (command_in s bs ns is i)
