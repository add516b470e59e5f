-- What is due after what was read.
use Rattle.std.proofs.Common.{◌≡◌, ℕ, ◌≤◌, List, [], ◌∷◌, ◌++◌, length, Ok, refl, ap, sym, subst, ◌∙◌}
use Rattle.hunk_base.specs.Longwords.{AllLong}
use Rattle.hunk_words.specs.Kinds.{Kind, width}
use Rattle.hunk_words.specs.Machine.{due}
use Rattle.hunk_words.specs.Reading.{Progress, Reads, start_of, initial_progress, read_words, word_next}
use Rattle.hunk_words.specs.Files.{IsFile, IsValidPrefix, most_longwords}
use Rattle.hunk_words.specs.DecoderCore.{Behind, fields_read}
use Rattle.hunk_words.specs.Event.{events}
use Rattle.hunk_words.specs.State.{Around, around, expected_view}
use Rattle.hunk_words.specs.Taker.{sizes_told}
use Rattle.hunk_words.specs.Due.{Dues, told, dues_from, dues_read}
use Rattle.hunk_words.specs.Due.Dues.{of_kind, past_load_file}
use Rattle.hunk_words.specs.declared.decoder_core.CoreState.{CoreState}
use Rattle.hunk_words.specs.declared.due.Due.{Due}
use Rattle.hunk_words.specs.declared.event.Event.{Event}
use Rattle.hunk_words.specs.declared.event.FileKind.{FileKind}
use Rattle.hunk_words.specs.declared.event.FileKind.TheVariants.{Object, Load}
use Rattle.hunk_words.proofs.FilesPrefixLemmas.{start}
use Rattle.hunk_words.proofs.FilesReadingLemmas.{front-read, complete-file, file-reads}
use Rattle.hunk_words.proofs.FirstOffenceBlameLemmas.{is-due, load-ends, due-read}
use Rattle.hunk_words.proofs.ReadingProgressLemmas.{WordsRead, words-read}
use Rattle.hunk_words.proofs.ReadingSplitLemmas.{reads-one}

-- what the machine expects is due
Dues-read : (kind : FileKind) (ws : List ℕ) (s : List Kind) (seen : List ℕ) → AllLong ws → length ws ≤ most_longwords → read_words (initial_progress kind) 0 ws ≡ Ok (record { stack = s; seen = seen }) → Dues kind ws (told (due s))
Dues-read kind ws [] seen longs short h =
    let d : Progress = record { stack = []; seen = seen } in
    past_load_file (load-ends kind ws (words-read ws (initial_progress kind) 0 d longs h).reads) (complete-file kind ws d longs short h tt) refl
Dues-read kind ws (k ∷ s) seen longs short h =
    let r = words-read ws (initial_progress kind) 0 (record { stack = k ∷ s; seen = seen }) longs h in
    of_kind (is-due kind ws k s seen r.reads r.seen) refl

dues-append : (ws : List ℕ) (w : ℕ) (s e : List Kind) → Reads s ws e → dues_from s (ws ++ w ∷ []) ≡ dues_from s ws ++ (told (due e), w) ∷ []
dues-append [] w s e reads = ap (λ t. (told (due t), w) ∷ []) reads
dues-append (x ∷ ws) w s e reads = ap (λ ds. (told (due s), x) ∷ ds) (dues-append ws w (word_next (width (due s)) s x) e reads.1)

-- ---- of a core that keeps no error

-- what is told of the state is what is told of the machine
behind-told : (kind : FileKind) (Stands : List Event → Type 0) (core : CoreState) (ws : List ℕ) (d : Due) (b : Behind kind Stands core ws) → ((a : Around) → d ≡ told (due (expected_view core.state.due a))) → d ≡ told (due b.progress.stack)
behind-told kind Stands core ws d b is = is (around core.state (sizes_told kind (events (fields_read kind ws)))) ∙ ap (λ s. told (due s)) b.reached.stack

pub Behind-dues : (kind : FileKind) (Stands : List Event → Type 0) (core : CoreState) (ws : List ℕ) (d : Due) → Behind kind Stands core ws → ((a : Around) → d ≡ told (due (expected_view core.state.due a))) → Dues kind ws d
Behind-dues kind Stands core ws d b is =
    subst (λ e. Dues kind ws e) (sym (behind-told kind Stands core ws d b is)) (Dues-read kind ws b.progress.stack b.progress.seen b.long b.few b.read)

pub Behind-dues_read : (kind : FileKind) (Stands : List Event → Type 0) (core : CoreState) (ws : List ℕ) (w : ℕ) (d : Due) → Behind kind Stands core ws → ((a : Around) → d ≡ told (due (expected_view core.state.due a)))
    → dues_read kind (ws ++ w ∷ []) ≡ dues_read kind ws ++ (d, w) ∷ []
Behind-dues_read kind Stands core ws w d b is =
    dues-append ws w (start_of kind ∷ []) b.progress.stack (words-read ws (initial_progress kind) 0 b.progress b.long b.read).reads
    ∙ ap (λ e. dues_read kind ws ++ (e, w) ∷ []) (sym (behind-told kind Stands core ws d b is))

-- ---- one thing is due

-- nothing follows a whole load file
load-past : (kind : FileKind) (ws : List ℕ) (d : Progress) → kind ≡ Load → IsFile kind ws → WordsRead (initial_progress kind) ws d → [] ≡ d.stack
load-past Load ws d load file r = reads-one ws (start Load) [] d.stack (file-reads Load ws file) r.reads
load-past Object ws d load file r = absurd (cc)

due-told : (kind : FileKind) (ws : List ℕ) (d : Progress) (e : Due) → WordsRead (initial_progress kind) ws d → Dues kind ws e → e ≡ told (due d.stack)
due-told kind ws d e r (of_kind {k} {seen} is same) = same ∙ ap (λ x. told x) (sym (due-read kind ws d k seen r is).0)
due-told kind ws d e r (past_load_file load file same) = same ∙ ap (λ s. told (due s)) (load-past kind ws d load file r)

pub due-one : (kind : FileKind) (ws : List ℕ) (d e : Due) → IsValidPrefix kind ws → Dues kind ws d → Dues kind ws e → d ≡ e
due-one kind ws d e good one other =
    let r = front-read kind ws good in
    due-told kind ws r.0 d r.2 one ∙ sym (due-told kind ws r.0 e r.2 other)
