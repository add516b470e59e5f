-- The rules for the hunks of a load file, and which of them is broken first.
use Rattle.std.specs.Prelude.{◌≡◌, ℕ, ◌+◌, ◌*◌, ◌%◌, ◌^◌, ◌<◌, ◌≤◌, ◌==◌, Bool, true, false, not, nat_le, nat_lt, ◌&&◌, Option, Some, None, List, length, sum_by, position}
use Rattle.std.specs.List.{All, list_all}
use Rattle.hunk_base.specs.Name.{IsNameByte, longword_count, most_name}
use Rattle.hunk_base.specs.Sites.{AreApart}
use Rattle.hunk_words.specs.declared.kinds.HunkKind.{HunkKind}
use Rattle.hunk_words.specs.declared.kinds.HunkKind.TheVariants.{Bss}
use Rattle.hunk_loadfile.specs.LoadHunk.{FileHunk}
use Rattle.hunk_loadfile.specs.declared.rules.BuildFault.{BuildFault}
use Rattle.hunk_loadfile.specs.declared.rules.BuildFault.TheVariants.{HunkCount, TooLarge, Content, SiteLimit, Target, LongName}

-- ---- counts

-- the longwords of the hunks in memory
abbrev pub size_of : List FileHunk → ℕ
size_of hunks = sum_by (λ hunk. hunk.size) hunks

-- The longwords that a symbol takes in a file: the length of its name, the name, the value. A debug
-- block takes two in addition to its own.
abbrev pub symbol_longwords : List ℕ × ℕ → ℕ
symbol_longwords symbol = 2 + longword_count (length symbol.0)

abbrev pub debug_longwords : List ℕ → ℕ
debug_longwords ws = 2 + length ws

-- those of a hunk's symbols and debug blocks
abbrev pub info_longwords : List (List ℕ × ℕ) → List (List ℕ) → ℕ
info_longwords symbols debugs = sum_by symbol_longwords symbols + sum_by debug_longwords debugs

abbrev pub carried_by : FileHunk → ℕ
carried_by hunk = info_longwords hunk.symbols hunk.debugs

-- those of all symbols and debug blocks
abbrev pub carried_longwords : List FileHunk → ℕ
carried_longwords hunks = sum_by carried_by hunks

-- ---- checks (the numbers are our own)

abbrev pub most_hunks : ℕ
most_hunks = 65535

abbrev pub most_size : ℕ
most_size = 2 ^ 24

abbrev pub most_carried : ℕ
most_carried = 2 ^ 27

abbrev pub is_hunk_count : ℕ → Bool
is_hunk_count n = nat_le 1 n && nat_le n most_hunks

abbrev pub is_small : List FileHunk → Bool
is_small hunks = nat_le (size_of hunks) most_size && nat_le (carried_longwords hunks) most_carried

-- the bytes that a file may have for a hunk of this kind and size
abbrev pub most_content : HunkKind → ℕ → ℕ
most_content Bss size = 0
most_content _ size = 4 * size

-- whole longwords, no longer than the hunk in memory, none in a BSS
abbrev pub has_content : FileHunk → Bool
has_content hunk = length hunk.content % 4 == 0 && nat_le (length hunk.content) (most_content hunk.kind hunk.size)

abbrev pub has_limit : FileHunk → Bool
has_limit hunk = hunk.sites.limit == 4 * hunk.size

-- each site names one of `count` hunks
abbrev pub has_targets : ℕ → FileHunk → Bool
has_targets count hunk = list_all (λ site. nat_lt site.1 count) hunk.sites.entries

abbrev pub has_names : FileHunk → Bool
has_names hunk = list_all (λ symbol. nat_le (length symbol.0) most_name) hunk.symbols

-- ---- the first fault

abbrev pub fault_unless : Bool → BuildFault → Option BuildFault → Option BuildFault
fault_unless true fault next = next
fault_unless false fault next = Some fault

-- at the lowest hunk that does not pass the check
abbrev pub fault_at : (ℕ → BuildFault) → Option ℕ → Option BuildFault → Option BuildFault
fault_at fault None next = next
fault_at fault (Some k) next = Some (fault k)

abbrev pub build_fault : List FileHunk → Option BuildFault
build_fault hunks =
    fault_unless (is_hunk_count (length hunks)) HunkCount
    (fault_unless (is_small hunks) TooLarge
    (fault_at Content (position (λ hunk. not (has_content hunk)) hunks)
    (fault_at SiteLimit (position (λ hunk. not (has_limit hunk)) hunks)
    (fault_at Target (position (λ hunk. not (has_targets (length hunks) hunk)) hunks)
    (fault_at LongName (position (λ hunk. not (has_names hunk)) hunks) None)))))

-- ---- what holds of each load file

abbrev pub IsLongword : ℕ → Type 0
IsLongword w = w < 2 ^ 32

-- what the types of its fields say about a symbol, and about a hunk
pub record IsTypedSymbol (symbol : List ℕ × ℕ) : Type 0 where
  pub name_bytes : All IsNameByte symbol.0
  pub value : IsLongword symbol.1

pub record IsTyped (hunk : FileHunk) : Type 0 where
  pub bytes : All (λ b. b < 256) hunk.content
  pub apart : AreApart hunk.sites
  pub symbols : All IsTypedSymbol hunk.symbols
  pub debugs : All (All IsLongword) hunk.debugs

-- One of `count` hunks of a load file. Its sites lie in the hunk and are disjoint.
pub record IsLoadHunk (count : ℕ) (hunk : FileHunk) : Type 0 where
  pub typed : IsTyped hunk
  pub whole : length hunk.content % 4 ≡ 0
  pub content : length hunk.content ≤ most_content hunk.kind hunk.size
  pub limit : hunk.sites.limit ≡ 4 * hunk.size
  pub targets : All (λ site. site.1 < count) hunk.sites.entries
  pub names : All (λ symbol. length symbol.0 ≤ most_name) hunk.symbols

-- The hunks of a load file. The symbols and debug blocks of one that is read may take as many
-- longwords as a file has.
pub record IsLoadFile (hunks : List FileHunk) : Type 0 where
  pub some : 1 ≤ length hunks
  pub few : length hunks ≤ most_hunks
  pub small : size_of hunks ≤ most_size
  pub carries : carried_longwords hunks ≤ 2 ^ 28
  pub each : All (IsLoadHunk (length hunks)) hunks
