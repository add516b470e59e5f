use Rattle.std.proofs.Common.{ap, subst, sym, ◌∙◌}
use Rattle.hunk_words.specs.EventValue.{word_to}
use Rattle.hunk_words.specs.PartialHunk.{goes_to_content}
use Rattle.hunk_loadfile.specs.HunkBuilder.{Receives}
use Rattle.hunk_loadfile.specs.OpenHunk.{told_with_word}
use Rattle.hunk_loadfile.proofs.HunkBuilderLemmas.{Builds-takes, Builds-unkept, receives-content, receives-debug}
use Rattle.hunk_loadfile.proofs.hunk_builder.HunkBuilder.add_word.Goals as goal

pub returns-in-Nothing : goal.returns-in-Nothing
returns-in-Nothing g c = λ told watch h. Builds-unkept c.args.self.now c.args.word told.receiver told watch (subst (λ r. Receives r told.receiver) c.in-Nothing.is h.receiver) h

pub returns-in-Content : goal.returns-in-Content
returns-in-Content g c = λ told watch h.
    let goes = receives-content c.args.self.now told.receiver c.in-Content.is h.receiver in
    Builds-takes c.args.self.now c.add_word.new.self c.add_word.result (told_with_word c.args.word) told _ watch c.add_word.ensures h
    (ap (λ t. word_to t told c.args.word) goes ∙ ap (λ t. record told { hunk = told_with_word c.args.word (goes_to_content t) told.hunk }) (sym goes))

pub returns-in-Debug : goal.returns-in-Debug
returns-in-Debug g c = λ told watch h.
    Builds-takes c.args.self.now c.add_debug_word.new.self c.add_debug_word.result _ told _ watch c.add_debug_word.ensures h
    (ap (λ t. word_to t told c.args.word) (receives-debug c.args.self.now told.receiver c.in-Debug.is h.receiver))
