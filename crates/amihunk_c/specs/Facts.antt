-- What is known of a hunk of a file of either kind.
use Rattle.std.specs.Prelude.{ℕ, List, [], map}
use Rattle.hunk_words.specs.declared.kinds.HunkKind.{HunkKind}
use Rattle.hunk_words.specs.declared.kinds.Memory.{Memory}
use Rattle.hunk_objects.specs.UnitHunk.{ObjectHunk}
use Rattle.hunk_objects.specs.declared.unit_hunk.Adds.{Adds}
use Rattle.hunk_objects.specs.declared.unit_hunk.Adds.TheVariants as adds
use Rattle.hunk_objects.specs.declared.unit_hunk.Definition.{Definition}
use Rattle.hunk_loadfile.specs.LoadHunk.{FileHunk}
use Rattle.amihunk_c.specs.declared.told.SiteTold.{SiteTold}

-- What its kind of file does not have is empty.
pub record HunkFacts : Type 0 where
  pub name : List ℕ
  pub kind : HunkKind
  pub memory : Memory
  pub size : ℕ
  pub stored : List ℕ
  pub sites : List SiteTold
  pub symbols : List (List ℕ × ℕ)
  pub definitions : List (List ℕ × Definition)
  pub references : List (List ℕ)
  pub debugs : List (List ℕ)

-- ---- sites: an offset, and what is added there

abbrev pub load_site : ℕ × ℕ → SiteTold
load_site site = record { offset = site.0; kind = 0; target = site.1 }

abbrev pub target_site : ℕ → Adds → SiteTold
target_site offset (adds.Hunk hunk) = record { offset = offset; kind = 0; target = hunk }
target_site offset (adds.Reference index) = record { offset = offset; kind = 1; target = index }

abbrev pub unit_site : ℕ × Adds → SiteTold
unit_site site = target_site site.0 site.1

-- ---- hunks

abbrev pub unit_hunk : ObjectHunk → HunkFacts
unit_hunk hunk = record {
  name = hunk.name;
  kind = hunk.kind;
  memory = hunk.memory;
  size = hunk.size;
  stored = hunk.content;
  sites = map unit_site hunk.sites.entries;
  symbols = hunk.symbols;
  definitions = hunk.definitions;
  references = hunk.references;
  debugs = hunk.debugs;
}

abbrev pub load_hunk : FileHunk → HunkFacts
load_hunk hunk = record {
  name = [];
  kind = hunk.kind;
  memory = hunk.memory;
  size = hunk.size;
  stored = hunk.content;
  sites = map load_site hunk.sites.entries;
  symbols = hunk.symbols;
  definitions = [];
  references = [];
  debugs = hunk.debugs;
}
