-- What a state of the decoder stands for: a stack of what is expected. The sizes are those of a
-- load file's header, as far as they have been read.
use Rattle.std.specs.Prelude.{◌≡◌, ℕ, suc, ◌+◌, ◌≤◌, ◌^◌, List, [], ◌∷◌, ◌++◌, drop, length, reverse, slice_index, Option, Some, None, Result, Ok, Err}
use Rattle.hunk_base.specs.declared.fault.Reason.{Reason}
use Rattle.hunk_words.specs.declared.event.Event.{Event}
use Rattle.hunk_words.specs.declared.event.Event.TheVariants.{HunkSize, HunkEnd}
use Rattle.hunk_words.specs.declared.event.FileKind.{FileKind}
use Rattle.hunk_words.specs.declared.event.FileKind.TheVariants.{Object, Load}
use Rattle.hunk_words.specs.declared.state.State.{State}
use Rattle.hunk_words.specs.declared.state.Step.{Step}
use Rattle.hunk_words.specs.declared.state.AfterWords.{AfterWords}
use Rattle.hunk_words.specs.declared.state.AfterWords.TheVariants as after_words_is
use Rattle.hunk_words.specs.declared.state.Expected.{Expected}
use Rattle.hunk_words.specs.declared.state.Expected.TheVariants as expected_is
use Rattle.hunk_words.specs.Kinds.{Kind, Within, flip, half_after}
use Rattle.hunk_words.specs.FaultTable.{judged}
use Rattle.hunk_words.specs.Kinds.Within.{in_unit, in_load}
use Rattle.hunk_words.specs.Kinds.Kind.{object_start, load_start, unit_type, hunk_type, content_type, block_type, unit_length, name_length, word, value, content_size, reloc_count, hunk_number, offset, debug_length, symbol_entry, ext_entry, ref_count, ref_offset, resident, table_size, first_hunk, last_hunk, header_size, short_count, short_hunk, short_offset, short_pad}
use Rattle.hunk_words.specs.Machine.{times, short_times, hunks_due, due, next}
use Rattle.hunk_words.specs.Event.{event_at}

-- The surroundings of the number that is expected: the hunk's place and site limit, the last hunk
-- and this hunk's size in the header, the sizes read, the latest first, and what is expected after
-- this hunk.
pub record Around : Type 0 where
  pub place : Within
  pub limit : ℕ
  pub last : ℕ
  pub size : ℕ
  pub before : List ℕ
  pub below : List Kind

abbrev pub within_of : FileKind → ℕ → ℕ → Within
within_of Object last size = in_unit
within_of Load last size = in_load last size

-- what is expected after this hunk, with the sizes of the hunks after it
abbrev pub below_of : FileKind → ℕ → List ℕ → List Kind
below_of Object last sizes = unit_type ∷ []
below_of Load last sizes = hunks_due last sizes []

abbrev pub around : State → List ℕ → Around
around state sizes = record {
  place = within_of state.file state.last (slice_index sizes state.hunk);
  limit = state.limit;
  last = state.last;
  size = slice_index sizes state.hunk;
  before = reverse sizes;
  below = below_of state.file state.last (drop (suc state.hunk) sizes);
}

-- what is expected after a block
abbrev pub more_blocks : Around → List Kind
more_blocks a = block_type a.place a.limit ∷ a.below

abbrev pub after_words_view : AfterWords → Around → List Kind
after_words_view after_words_is.UnitType a = unit_type ∷ []
after_words_view after_words_is.ContentType a = content_type a.place ∷ a.below
after_words_view after_words_is.BlockType a = more_blocks a
after_words_view after_words_is.SymbolValue a = value ∷ symbol_entry ∷ more_blocks a
after_words_view after_words_is.EntryValue a = value ∷ ext_entry a.limit ∷ more_blocks a
after_words_view after_words_is.RefCount a = ref_count a.limit ∷ ext_entry a.limit ∷ more_blocks a

-- the rest of a header
abbrev pub more_header : Around → List Kind
more_header a = last_hunk a.last ∷ header_size a.last (2 ^ 24) a.last [] ∷ []

abbrev pub expected_view : Expected → Around → List Kind
expected_view expected_is.ObjectStart a = object_start ∷ []
expected_view expected_is.LoadStart a = load_start ∷ []
expected_view expected_is.Resident a = resident ∷ table_size ∷ []
expected_view expected_is.TableSize a = table_size ∷ []
expected_view expected_is.FirstHunk a = first_hunk ∷ more_header a
expected_view expected_is.LastHunk a = more_header a
expected_view (expected_is.HeaderSize room left) a = header_size a.last room left a.before ∷ []
expected_view expected_is.UnitType a = unit_type ∷ []
expected_view expected_is.HunkType a = hunk_type a.last a.size ∷ a.below
expected_view expected_is.ContentType a = content_type a.place ∷ a.below
expected_view expected_is.BlockType a = more_blocks a
expected_view expected_is.PastEnd a = []
expected_view expected_is.UnitLength a = unit_length ∷ unit_type ∷ []
expected_view expected_is.NameLength a = name_length ∷ content_type a.place ∷ a.below
expected_view (expected_is.Word more then) a = word ∷ times more word (after_words_view then a)
expected_view (expected_is.ContentSize content bits) a = content_size a.place content bits ∷ a.below
expected_view expected_is.RelocCount a = reloc_count a.place a.limit ∷ more_blocks a
expected_view (expected_is.HunkNumber more) a = hunk_number a.place a.limit more ∷ reloc_count a.place a.limit ∷ more_blocks a
expected_view (expected_is.Offset more target) a = offset a.limit target ∷ times more (offset a.limit target) (reloc_count a.place a.limit ∷ more_blocks a)
expected_view expected_is.DebugLength a = debug_length ∷ more_blocks a
expected_view expected_is.SymbolEntry a = symbol_entry ∷ more_blocks a
expected_view expected_is.SymbolValue a = value ∷ symbol_entry ∷ more_blocks a
expected_view expected_is.ExtEntry a = ext_entry a.limit ∷ more_blocks a
expected_view expected_is.EntryValue a = value ∷ ext_entry a.limit ∷ more_blocks a
expected_view expected_is.RefCount a = ref_count a.limit ∷ ext_entry a.limit ∷ more_blocks a
expected_view (expected_is.RefOffset more) a = ref_offset a.limit ∷ times more (ref_offset a.limit) (ext_entry a.limit ∷ more_blocks a)
expected_view (expected_is.ShortCount half) a = short_count half a.last a.limit ∷ more_blocks a
expected_view (expected_is.ShortHunk half more) a = short_hunk half a.last a.limit more ∷ short_count (half_after (suc more) (flip half)) a.last a.limit ∷ more_blocks a
expected_view (expected_is.ShortOffset half more target) a = short_offset half a.limit target ∷ short_times more (flip half) a.limit target (short_count (half_after (suc more) half) a.last a.limit ∷ more_blocks a)
expected_view expected_is.ShortPad a = short_pad ∷ more_blocks a

abbrev pub view : State → List ℕ → List Kind
view state sizes = expected_view state.due (around state sizes)

-- ---- which states there are

abbrev pub IsAfterWordsIn : AfterWords → FileKind → Type 0
IsAfterWordsIn after_words_is.UnitType file = file ≡ Object
IsAfterWordsIn after_words_is.EntryValue file = file ≡ Object
IsAfterWordsIn after_words_is.RefCount file = file ≡ Object
IsAfterWordsIn then file = Unit {0}

-- what is expected only in files of one kind
abbrev pub IsExpectedIn : Expected → FileKind → Type 0
IsExpectedIn expected_is.ObjectStart file = file ≡ Object
IsExpectedIn expected_is.UnitType file = file ≡ Object
IsExpectedIn expected_is.UnitLength file = file ≡ Object
IsExpectedIn (expected_is.Word more then) file = IsAfterWordsIn then file
IsExpectedIn expected_is.ExtEntry file = file ≡ Object
IsExpectedIn expected_is.EntryValue file = file ≡ Object
IsExpectedIn expected_is.RefCount file = file ≡ Object
IsExpectedIn (expected_is.RefOffset more) file = file ≡ Object
IsExpectedIn expected_is.LoadStart file = file ≡ Load
IsExpectedIn expected_is.Resident file = file ≡ Load
IsExpectedIn expected_is.TableSize file = file ≡ Load
IsExpectedIn expected_is.FirstHunk file = file ≡ Load
IsExpectedIn expected_is.LastHunk file = file ≡ Load
IsExpectedIn (expected_is.HeaderSize room left) file = file ≡ Load
IsExpectedIn expected_is.HunkType file = file ≡ Load
IsExpectedIn expected_is.PastEnd file = file ≡ Load
IsExpectedIn (expected_is.ShortCount half) file = file ≡ Load
IsExpectedIn (expected_is.ShortHunk half more) file = file ≡ Load
IsExpectedIn (expected_is.ShortOffset half more target) file = file ≡ Load
IsExpectedIn expected_is.ShortPad file = file ≡ Load
IsExpectedIn due file = Unit {0}

-- how many sizes of a load file's header have been read: none, those before this one, or all
abbrev pub SizesRead : Expected → (last hunk : ℕ) → List ℕ → Type 0
SizesRead expected_is.LoadStart last hunk sizes = sizes ≡ []
SizesRead expected_is.Resident last hunk sizes = sizes ≡ []
SizesRead expected_is.TableSize last hunk sizes = sizes ≡ []
SizesRead expected_is.FirstHunk last hunk sizes = sizes ≡ []
SizesRead expected_is.LastHunk last hunk sizes = sizes ≡ []
SizesRead (expected_is.HeaderSize room left) last hunk sizes = length sizes + left ≡ last
SizesRead due last hunk sizes = (length sizes ≡ suc last) × (hunk ≤ last)

abbrev pub SizesIn : FileKind → Expected → (last hunk : ℕ) → List ℕ → Type 0
SizesIn Object due last hunk sizes = Unit {0}
SizesIn Load due last hunk sizes = SizesRead due last hunk sizes

-- The state is that of a file with these sizes in its header so far.
pub record IsState (state : State) (sizes : List ℕ) : Type 0 where
  pub due_in : IsExpectedIn state.due state.file
  pub sizes_in : SizesIn state.file state.due state.last state.hunk sizes

-- ---- what the result of a number means

-- the sizes in the header, after one more event
abbrev pub sizes_with : Option Event → List ℕ → List ℕ
sizes_with (Some (HunkSize bits size)) sizes = sizes ++ size ∷ []
sizes_with event sizes = sizes

-- The number passes, this is its event, and this is expected after it.
pub record Steps (state : State) (sizes : List ℕ) (n : ℕ) (step : Step) : Type 0 where
  pub passes : judged (due (view state sizes)) n ≡ None
  pub tells : step.event ≡ event_at (due (view state sizes)) n
  pub goes : view step.state (sizes_with step.event sizes) ≡ next (view state sizes) n
  pub same_file : step.state.file ≡ state.file
  pub is_state : IsState step.state (sizes_with step.event sizes)

abbrev pub Stepped : State → List ℕ → ℕ → Result Step Reason → Type 0
Stepped state sizes n (Ok step) = Steps state sizes n step
Stepped state sizes n (Err reason) = judged (due (view state sizes)) n ≡ Some reason

-- the result of a number where this is expected
abbrev pub StepsFrom : State → Expected → ℕ → Result Step Reason → Type 0
StepsFrom state due n result = (sizes : List ℕ) → IsState (record state { due = due }) sizes → Stepped (record state { due = due }) sizes n result

-- a hunk ends
abbrev pub EndsHunk : State → Result Step Reason → Type 0
EndsHunk state (Err reason) = ⊥
EndsHunk state (Ok step) = (step.event ≡ Some HunkEnd) × ((sizes : List ℕ) → SizesIn state.file expected_is.BlockType state.last state.hunk sizes →
    (view step.state sizes ≡ below_of state.file state.last (drop (suc state.hunk) sizes)) × (step.state.file ≡ state.file) × IsState step.state sizes)

-- the size of this hunk in a load file's header
abbrev pub SizeIs : FileKind → List ℕ → (hunk size : ℕ) → Type 0
SizeIs Object sizes hunk size = Unit {0}
SizeIs Load sizes hunk size = slice_index sizes hunk ≡ size

-- the result where this is expected, with this hunk's size
abbrev pub SizedStepsFrom : State → Expected → (size n : ℕ) → Result Step Reason → Type 0
SizedStepsFrom state due size n result = (sizes : List ℕ) → SizeIs state.file sizes state.hunk size → IsState (record state { due = due }) sizes → Stepped (record state { due = due }) sizes n result

-- The size is given where it is needed: where the size of content is expected.
abbrev pub GivenAt : Expected → Type 0 → Type 0
GivenAt (expected_is.ContentSize content bits) Given = Given
GivenAt due Given = Unit {0}

abbrev pub SizeIsGiven : State → List ℕ → ℕ → Type 0
SizeIsGiven state sizes size = GivenAt state.due (SizeIs state.file sizes state.hunk size)
