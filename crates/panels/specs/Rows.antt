-- Which words `candidates` may be given. "`candidates` gets the header, its y and the plan's index words untouched": the statement about the panels hands it
-- all the words that were lent for them, the plan program and the Rust crate only as many as the plan counts.
use Rattle.std.specs.Prelude.{◌≡◌, true, List, ◌++◌, ℕ, length}
use Rattle.std.proofs.Math.Option.{Option}
use Rattle.base_lists.specs.Members.{All}
use Rattle.strip_frame.specs.Frame.{header_length, sizes_at}
use Rattle.compositor_device.specs.declared.DeviceRegion.{DeviceRegion}
use Rattle.compositor_candidates.specs.Table.{candidates, refusal}
use Rattle.plan_answers.specs.Space.{Slices, lent_of}
use Rattle.plan_answers.specs.Answers.{answer_of, accepted, index_words_of}
use Rattle.panels.specs.Entries.{call_of, entries}

-- under a header, a region has its row in some words, and it is the row that it has in others
pub record RowAlike (header words others : List ℕ) (r : DeviceRegion) : Type 0 where
  pub answered : refusal (sizes_at header) r.y words ≡ 0
  pub alike : candidates (sizes_at header) r.y words ≡ candidates (sizes_at header) r.y others

-- Every region of an accepted call has, in any words that begin with the plan's, the row that it has in the words that the call leaves; with no `rest` these
-- are the words that the plan counts.
abbrev pub SameRows : Type 0
SameRows =
    (header : List ℕ) → length header ≡ header_length → (last : Option (List ℕ)) (s : List ℕ) (z : Slices)
    → accepted (answer_of (lent_of z) (call_of header last s)) ≡ true
    → (rest : List ℕ)
    → All (RowAlike header (index_words_of (call_of header last s) ++ rest) ((entries header).words last s z)) ((entries header).regions last s z)
