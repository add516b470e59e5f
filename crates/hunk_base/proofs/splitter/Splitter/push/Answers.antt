-- A byte comes after the bytes held: those of the unfinished longword.
use Rattle.std.proofs.Common.{◌≡◌, ℕ, List, [], ◌∷◌, ◌++◌, sym, ap, ◌∙◌}
use Rattle.hunk_base.specs.Longwords.{longwords, unfinished}
use Rattle.hunk_base.specs.Splitter.{StandsFor, held_bytes}
use Rattle.hunk_base.specs.declared.splitter.Held.{Held}
use Rattle.hunk_base.specs.declared.splitter.Splitter.{Splitter}
use Rattle.hunk_base.proofs.SplitterLemmas.{unfinished-push, longwords-push}
use Rattle.hunk_base.proofs.splitter.Splitter.push.Goals as goal

holds : (splitter : Splitter) (held : Held) (bytes : List ℕ) → splitter.held ≡ held → StandsFor splitter bytes → held_bytes held ≡ unfinished bytes
holds splitter held bytes is_held stands = ap held_bytes (sym is_held) ∙ stands.held

pub returns-in-Nothing-clause-stands : goal.returns-in-Nothing-clause-stands
returns-in-Nothing-clause-stands c = λ bytes stands. record { held = unfinished-push [] bytes c.args.byte (holds _ _ bytes c.in-Nothing.is stands) }

pub returns-in-Nothing-clause-word : goal.returns-in-Nothing-clause-word
returns-in-Nothing-clause-word c = λ bytes stands. longwords-push [] bytes c.args.byte (holds _ _ bytes c.in-Nothing.is stands)

pub returns-in-One-clause-stands : goal.returns-in-One-clause-stands
returns-in-One-clause-stands c = λ bytes stands. record { held = unfinished-push (c.in-One.first ∷ []) bytes c.args.byte (holds _ _ bytes c.in-One.is stands) }

pub returns-in-One-clause-word : goal.returns-in-One-clause-word
returns-in-One-clause-word c = λ bytes stands. longwords-push (c.in-One.first ∷ []) bytes c.args.byte (holds _ _ bytes c.in-One.is stands)

pub returns-in-Two-clause-stands : goal.returns-in-Two-clause-stands
returns-in-Two-clause-stands c = λ bytes stands. record { held = unfinished-push (c.in-Two.first ∷ c.in-Two.second ∷ []) bytes c.args.byte (holds _ _ bytes c.in-Two.is stands) }

pub returns-in-Two-clause-word : goal.returns-in-Two-clause-word
returns-in-Two-clause-word c = λ bytes stands. longwords-push (c.in-Two.first ∷ c.in-Two.second ∷ []) bytes c.args.byte (holds _ _ bytes c.in-Two.is stands)

pub returns-in-Three-clause-stands : goal.returns-in-Three-clause-stands
returns-in-Three-clause-stands c = λ bytes stands. record { held = unfinished-push (c.in-Three.first ∷ c.in-Three.second ∷ c.in-Three.third ∷ []) bytes c.args.byte (holds _ _ bytes c.in-Three.is stands) }

pub returns-in-Three-clause-word : goal.returns-in-Three-clause-word
returns-in-Three-clause-word c = λ bytes stands.
    longwords-push (c.in-Three.first ∷ c.in-Three.second ∷ c.in-Three.third ∷ []) bytes c.args.byte (holds _ _ bytes c.in-Three.is stands)
    ∙ ap (λ word. longwords bytes ++ word ∷ []) (sym c.read_u32.ensures)
