-- Demand 3 for the two entries: the planner of crate `plan_answers` under one header. A call's numbers, regions and index words are those of the entries'
-- contracts, which speak of the same definitions.
use Rattle.std.specs.Prelude.{◌≡◌, List, [], ◌++◌, ℕ, length}
use Rattle.std.proofs.Math.Option.{Option, none, some}
use Rattle.strip_frame.specs.declared.Entry.{Entry}
use Rattle.strip_frame.specs.declared.Entry.TheVariants.{First, Next}
use Rattle.strip_frame.specs.Frame.{header_length, sizes_at}
use Rattle.compositor_device.specs.declared.DeviceRegion.{DeviceRegion}
use Rattle.strip.specs.Reading.{commands_of}
use Rattle.plan_answers.specs.Drafts.{Outcome, refuses, drafted, outcome}
use Rattle.plan_answers.specs.Space.{Slices, lent_of}
use Rattle.plan_answers.specs.Answers.{answer_of, accepted, index_words_of, published}
use Rattle.panels.specs.Panels.{Planner, PanelsAgree}

-- "Until one is accepted, the first-frame entry gets header and strip; then the other entry gets header, last accepted strip and strip."
abbrev pub entry_after : Option (List ℕ) → Entry
entry_after none = First
entry_after (some old) = Next

-- what it gets behind the header
abbrev pub strips_after : Option (List ℕ) → List ℕ → List ℕ
strips_after none s = s
strips_after (some old) s = old ++ s

abbrev pub call_of : List ℕ → Option (List ℕ) → List ℕ → Outcome
call_of header last s = outcome (entry_after last) (header ++ strips_after last s)

-- the regions of an accepted call
abbrev pub drafted_regions : Outcome → List DeviceRegion
drafted_regions (refuses why) = []
drafted_regions (drafted i d) = d.regions

-- strips of any bytes, any lent space; the index words are those that the call leaves in the space lent for them
abbrev pub entries : List ℕ → Planner
entries header =
    record {
      Strip = List ℕ;
      Space = Slices;
      accepted = λ last s z. accepted (answer_of (lent_of z) (call_of header last s));
      commands = λ s. commands_of (header ++ s) header_length;
      regions = λ last s z. drafted_regions (call_of header last s);
      words = λ last s z. published (answer_of (lent_of z) (call_of header last s)) (index_words_of (call_of header last s)) z.words;
    }

-- Demand 3: under every header, "width, height, band height, u32 each". The proof does not use the glyph rule, for a glyph is painted by its key, which
-- has no box; nor, for the colours, that no two regions overlap: each leaves on its pixels what panel A shows.
abbrev pub EntriesAgree : Type 1
EntriesAgree = (header : List ℕ) → length header ≡ header_length → PanelsAgree (sizes_at header) (entries header)
