-- The types of blocks and of external symbols, number by number.
use Rattle.std.proofs.Common.{◌≡◌, ℕ, refl, ap}
use Rattle.hunk_words.specs.Kinds.{type_of, entry_of, entry_type, lookup_or, entry_types}
use Rattle.hunk_words.specs.declared.kinds.HunkKind.TheVariants.{Code, Data, Bss}
use Rattle.hunk_words.specs.declared.kinds.BlockType.TheVariants.{Unit as unit, Name as name, Content as content, Reloc as reloc, Ext as ext, Symbol as symbol, Debug as debug, End as end, Short as short}
use Rattle.hunk_words.specs.declared.kinds.EntryType.TheVariants.{Definition as definition, Absolute as absolute, Reference as reference, Other as other_entry}

pub type-unit : type_of 999 ≡ unit
unfolding type_of
type-unit = refl

pub type-name : type_of 1000 ≡ name
unfolding type_of
type-name = refl

pub type-code : type_of 1001 ≡ content Code
unfolding type_of
type-code = refl

pub type-data : type_of 1002 ≡ content Data
unfolding type_of
type-data = refl

pub type-bss : type_of 1003 ≡ content Bss
unfolding type_of
type-bss = refl

pub type-reloc : type_of 1004 ≡ reloc
unfolding type_of
type-reloc = refl

pub type-ext : type_of 1007 ≡ ext
unfolding type_of
type-ext = refl

pub type-symbol : type_of 1008 ≡ symbol
unfolding type_of
type-symbol = refl

pub type-debug : type_of 1009 ≡ debug
unfolding type_of
type-debug = refl

pub type-end : type_of 1010 ≡ end
unfolding type_of
type-end = refl

pub type-short : type_of 1020 ≡ short
unfolding type_of
type-short = refl

pub entry-definition : (n : ℕ) → entry_type n ≡ 1 → entry_of n ≡ definition
unfolding entry_of
entry-definition n h = ap (λ t. lookup_or entry_types other_entry t) h

pub entry-absolute : (n : ℕ) → entry_type n ≡ 2 → entry_of n ≡ absolute
unfolding entry_of
entry-absolute n h = ap (λ t. lookup_or entry_types other_entry t) h

pub entry-reference : (n : ℕ) → entry_type n ≡ 129 → entry_of n ≡ reference
unfolding entry_of
entry-reference n h = ap (λ t. lookup_or entry_types other_entry t) h
