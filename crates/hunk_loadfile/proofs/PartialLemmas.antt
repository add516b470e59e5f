-- The partial load file after the events of a whole file is that file.
use Rattle.std.proofs.Common.{◌≡◌, ℕ, List, sym, ap, ◌∙◌}
use Rattle.hunk_words.specs.Files.{IsFileOf}
use Rattle.hunk_words.specs.Trees.{LoadTree}
use Rattle.hunk_words.specs.Spelling.{load_spelling, LoadFits}
use Rattle.hunk_words.specs.Event.{events}
use Rattle.hunk_words.specs.Values.{load_sizes}
use Rattle.hunk_words.specs.EventValue.{value_of_events, initial_load}
use Rattle.hunk_words.specs.SiteContext.{SiteContext}
use Rattle.hunk_words.specs.Taker.{context_of}
use Rattle.hunk_words.specs.DecoderCore.{TellsFile}
use Rattle.hunk_words.specs.declared.event.Event.{Event}
use Rattle.hunk_words.specs.declared.event.FileKind.TheVariants.{Load}
use Rattle.hunk_words.proofs.EventValueTreeLemmas.{load-told}
use Rattle.hunk_loadfile.proofs.LoadFileLemmas.{load_value-file_hunks}
use Rattle.hunk_loadfile.specs.LoadFile.{load_value, IsLoad}
use Rattle.hunk_loadfile.specs.LoadHunk.{FileHunk}
use Rattle.hunk_loadfile.specs.Partial.{HaveEnded, file_hunks, first_hunks, partial}
use Rattle.hunk_loadfile.specs.LoadBuilder.{StandsFor}
use Rattle.hunk_loadfile.specs.declared.load_builder.LoadBuilder.{LoadBuilder}

pub partial-whole : (t : LoadTree) → LoadFits t → partial (events (load_spelling t)) ≡ load_value t
partial-whole t fits =
    let told = load-told t fits in
    ap (λ ss. file_hunks ss (first_hunks (value_of_events initial_load (events (load_spelling t))).parts)) told.0
    ∙ ap (λ ps. file_hunks (load_sizes t) (first_hunks ps)) told.1
    ∙ sym (load_value-file_hunks t)

-- the hunks that have ended
pub HaveEnded-partial : (hunks : List FileHunk) (told : List Event) (watch : SiteContext) → HaveEnded hunks (value_of_events initial_load told) watch → hunks ≡ partial told
HaveEnded-partial hunks told watch h = h.values ∙ ap (λ ps. file_hunks (value_of_events initial_load told).sizes (first_hunks ps)) (sym h.one_part)

-- After the events of a file they are that file.
pub HaveEnded-load : (hunks : List FileHunk) (t : LoadTree) (ws : List ℕ) (watch : SiteContext) → IsFileOf Load t ws → HaveEnded hunks (value_of_events initial_load (events (load_spelling t))) watch → IsLoad hunks ws
HaveEnded-load hunks t ws watch is ended = record { tree = t; is_file = is; value = sym (HaveEnded-partial hunks (events (load_spelling t)) watch ended ∙ partial-whole t is.fits) }

-- what a builder holds
pub with_tables-load : {A : Type 0} (b : LoadBuilder A) (ws : List ℕ) → TellsFile Load (StandsFor b) ws → IsLoad b.hunks.items ws
with_tables-load b ws tells = HaveEnded-load b.hunks.items tells.tree ws (context_of Load (events (load_spelling tells.tree))) tells.is_file tells.stands.ended
