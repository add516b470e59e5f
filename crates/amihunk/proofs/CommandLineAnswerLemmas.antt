-- What the arguments of a command line ask for.
use Rattle.std.proofs.Common.{◌≡◌, ◌≢◌, codes, ◌≤◌, ◌∙◌, List, [], ◌∷◌, ◌⊎◌, ap, IfOk, inl, inr, length, Err, Ok, refl, Result, Some, subst, sym}
use Rattle.std.specs.Result.{result_unwrap_or}
use Rattle.std.specs.declared.alloc.AllocError.{AllocError}
use Rattle.clap.proofs.OnLiterals.{clap_on_literals}
use Rattle.clap.specs.Lexer.{usize_max}
use Rattle.clap.specs.Words.{IsAmong, Text, fault_of, subcommand_of}
use Rattle.clap.specs.declared.error.ErrorKind.{ErrorKind}
use Rattle.clap.specs.declared.error.ErrorKind.TheVariants as error
use Rattle.hunk_commands.specs.declared.request.Request.{Request}
use Rattle.hunk_commands.specs.declared.request.Request.TheVariants.{Check, Compare, Copy, Help, Image, Link, Load, Names, OutOfMemory, Refused, Show, Survey, Version}
use Rattle.amihunk.specs.Syntax.{command_line}
use Rattle.amihunk.specs.Call.{Asks, Call, IsFound, IsOrNothing, Meaning, Means, meaning}
use Rattle.amihunk.specs.CommandLine.{AreRefused, Calls, IsAnswer, IsAskedBy, IsMeant, IsVersionWord, Met, Says, call_of, version_line}
use Rattle.amihunk.specs.Call.Call.{conflict}
use Rattle.amihunk.specs.Call.Meaning.{calls, help, nothing, rejection, version}
use Rattle.amihunk.proofs.CommandLineLemmas.{whole_where_faultless}

-- what one of the kinds of error asks for is what the arguments ask for
pub asked_by_kind : (words : List Text) (m : Meaning) (k : ErrorKind) → (k ≡ error.OutOfMemory) ⊎ IsAmong k (fault_of command_line words)
    → IsAnswer k m → IsMeant words m
asked_by_kind words (calls call) k has answers = absurd answers
asked_by_kind words version k (inl none) answers = cc
asked_by_kind words version k (inr among) answers = subst (λ (x : ErrorKind). IsAmong x (fault_of command_line words)) answers among
asked_by_kind words help k (inl none) answers = cc
asked_by_kind words help k (inr among) answers = subst (λ (x : ErrorKind). IsAmong x (fault_of command_line words)) answers among
asked_by_kind words rejection k (inl none) answers = absurd (answers.2 none)
asked_by_kind words rejection k (inr among) answers = inl (record { kind = k; among = among; no_help = answers.0; no_version = answers.1 })
asked_by_kind words nothing k has answers = tt

-- what was found is what arguments ask for with which nothing is wrong
calls_met : (words : List Text) (met : Met) (call : Call) → fault_of command_line words ≡ [] → met ≡ subcommand_of command_line words → call_of met ≡ Some call → Calls words call
calls_met words met call quiet is found = record { quiet = quiet; whole = whole_where_faultless words quiet; call_is = ap call_of (sym is) ∙ found }

asked_by_met : (words : List Text) (met : Met) (m : Meaning) → fault_of command_line words ≡ [] → met ≡ subcommand_of command_line words → IsFound (call_of met) m → IsMeant words m
asked_by_met words met (calls call) quiet is found = calls_met words met call quiet is found
asked_by_met words met version quiet is found = absurd found
asked_by_met words met help quiet is found = absurd found
asked_by_met words met rejection quiet is found = inr (calls_met words met conflict quiet is found)
asked_by_met words met nothing quiet is found = tt

-- the same, where memory may have run out
pub asked_by_result : (words : List Text) (met : Met) (r : Result Request AllocError) (request : Request) → fault_of command_line words ≡ []
    → met ≡ subcommand_of command_line words → IfOk r (Says met) → request ≡ result_unwrap_or r OutOfMemory → IsAskedBy words request
asked_by_result words met (Ok found) request quiet is says same = subst (IsAskedBy words) (sym same) (asked_by_met words met (meaning found) quiet is says)
asked_by_result words met (Err e) request quiet is says same = subst (IsAskedBy words) (sym same) tt

-- arguments that are a call other than a conflict ask for it
asks_call : (words : List Text) (call : Call) → Calls words call → (conflict ≡ call → ⊥) → (m : Meaning) → IsMeant words m → IsOrNothing (calls call) m
asks_call words call is other (calls found) asked = let same : Some found ≡ Some call = sym asked.call_is ∙ is.call_is in cc
asks_call words call is other version asked = absurd (subst (λ kinds. IsAmong error.DisplayVersion kinds) is.quiet asked)
asks_call words call is other help asked = absurd (subst (λ kinds. IsAmong error.DisplayHelp kinds) is.quiet asked)
asks_call words call is other rejection (inl refused) = absurd (subst (λ kinds. IsAmong refused.kind kinds) is.quiet refused.among)
asks_call words call is other rejection (inr found) = let same : Some conflict ≡ Some call = sym found.call_is ∙ is.call_is in absurd (other cc)
asks_call words call is other nothing asked = tt

-- the same of arguments that are these words, of which there are not too many
pub asks : (words line : List Text) (call : Call) (request : Request) → length words ≤ usize_max → IsAskedBy words request → words ≡ line
    → (length line ≤ usize_max → Calls line call) → (conflict ≡ call → ⊥) → Asks call request
asks words line call request fits asked is_line is other =
    asks_call line call (is (subst (λ w. length w ≤ usize_max) is_line fits)) other (meaning request) (subst (λ w. IsAskedBy w request) is_line asked)

-- ---- the version

-- what arguments ask for whose only fault is that they ask for the version
shows_version : (words : List Text) → fault_of command_line words ≡ error.DisplayVersion ∷ [] → (m : Meaning) → IsMeant words m → IsOrNothing version m
shows_version words only (calls call) asked = let none : [] ≡ error.DisplayVersion ∷ [] = sym asked.quiet ∙ only in cc
shows_version words only version asked = refl
shows_version words only help asked = elim (subst (λ kinds. IsAmong error.DisplayHelp kinds) only asked) [
  | inl other ↦ cc
  | inr none ↦ absurd none
]
shows_version words only rejection (inl refused) = elim (subst (λ kinds. IsAmong refused.kind kinds) only refused.among) [
  | inl is ↦ absurd (refused.no_version is)
  | inr none ↦ absurd none
]
shows_version words only rejection (inr found) = let none : [] ≡ error.DisplayVersion ∷ [] = sym found.quiet ∙ only in cc
shows_version words only nothing asked = tt

version_fault : (program word : Text) → IsVersionWord word → fault_of command_line (version_line program word) ≡ error.DisplayVersion ∷ []
unfolding clap_on_literals
version_fault program word (inl long) = rw long refl
version_fault program word (inr short) = rw short refl

pub asks_version : (words : List Text) (request : Request) → IsAskedBy words request → (program word : Text) → words ≡ version_line program word → IsVersionWord word → Means version request
asks_version words request asked program word is_line is_word =
    shows_version (version_line program word) (version_fault program word is_word) (meaning request) (subst (λ w. IsAskedBy w request) is_line asked)

-- ---- words that are refused

-- what arguments ask for with which something is wrong, and which ask for neither help nor the version
refuses_fault : (words : List Text) (kind : ErrorKind) → fault_of command_line words ≡ kind ∷ [] → kind ≢ error.DisplayHelp → kind ≢ error.DisplayVersion → (m : Meaning) → IsMeant words m → IsOrNothing rejection m
refuses_fault words kind only no_help no_version (calls call) asked = let none : [] ≡ kind ∷ [] = sym asked.quiet ∙ only in cc
refuses_fault words kind only no_help no_version version asked = elim (subst (λ kinds. IsAmong error.DisplayVersion kinds) only asked) [
  | inl is ↦ absurd (no_version (sym is))
  | inr none ↦ absurd none
]
refuses_fault words kind only no_help no_version help asked = elim (subst (λ kinds. IsAmong error.DisplayHelp kinds) only asked) [
  | inl is ↦ absurd (no_help (sym is))
  | inr none ↦ absurd none
]
refuses_fault words kind only no_help no_version rejection asked = refl
refuses_fault words kind only no_help no_version nothing asked = tt

-- no request means a call that cannot be made
means_no_conflict : (request : Request) (call : Call) → meaning request ≡ calls call → call ≡ conflict → ⊥
means_no_conflict (Link out map options globals explain files list) call is none = cc
means_no_conflict (Load addresses text explain file) call is none = cc
means_no_conflict (Image addresses form explain files) call is none = cc
means_no_conflict (Check lint explain file) call is none = cc
means_no_conflict (Show text explain file) call is none = cc
means_no_conflict (Names files) call is none = cc
means_no_conflict (Survey options files list) call is none = cc
means_no_conflict (Copy out form explain file) call is none = cc
means_no_conflict (Compare with_symbols first second) call is none = cc
means_no_conflict Version call is none = cc
means_no_conflict (Help text) call is none = cc
means_no_conflict (Refused text) call is none = cc
means_no_conflict OutOfMemory call is none = cc

-- what arguments ask for that are such a call
refuses_conflict : (words : List Text) → Calls words conflict → (m : Meaning) → ((call : Call) → m ≡ calls call → call ≡ conflict → ⊥) → IsMeant words m → IsOrNothing rejection m
refuses_conflict words is (calls found) other asked =
    let same : Some found ≡ Some conflict = sym asked.call_is ∙ is.call_is in
    let here : found ≡ conflict = cc in
    absurd (other found refl here)
refuses_conflict words is version other asked = absurd (subst (λ kinds. IsAmong error.DisplayVersion kinds) is.quiet asked)
refuses_conflict words is help other asked = absurd (subst (λ kinds. IsAmong error.DisplayHelp kinds) is.quiet asked)
refuses_conflict words is rejection other asked = refl
refuses_conflict words is nothing other asked = tt

no_subcommand : (program : Text) → fault_of command_line (program ∷ []) ≡ error.MissingSubcommand ∷ []
unfolding clap_on_literals
no_subcommand program = refl

link_without_out : (program : Text) → fault_of command_line (program ∷ codes "link" ∷ codes "main.o" ∷ []) ≡ error.MissingRequiredArgument ∷ []
unfolding clap_on_literals
link_without_out program = refl

load_of_two : (program : Text) → fault_of command_line (program ∷ codes "load" ∷ codes "--at" ∷ codes "10000" ∷ codes "main" ∷ codes "other" ∷ []) ≡ error.UnknownArgument ∷ []
unfolding clap_on_literals
load_of_two program = refl

load_without_addresses : (program : Text) → Calls (program ∷ codes "load" ∷ codes "main" ∷ []) conflict
unfolding clap_on_literals
load_without_addresses program = record { quiet = refl; whole = whole_where_faultless (program ∷ codes "load" ∷ codes "main" ∷ []) refl; call_is = refl }

refuses : (program : Text) (others : List Text) (request : Request) → IsAskedBy (program ∷ others) request → AreRefused others → Means rejection request
unfolding means_no_conflict
refuses program others request asked (inl none) =
    refuses_fault (program ∷ []) error.MissingSubcommand (no_subcommand program) (λ e. cc) (λ e. cc) (meaning request) (subst (λ w. IsAskedBy (program ∷ w) request) none asked)
refuses program others request asked (inr (inl link)) =
    refuses_fault (program ∷ codes "link" ∷ codes "main.o" ∷ []) error.MissingRequiredArgument (link_without_out program) (λ e. cc) (λ e. cc) (meaning request) (subst (λ w. IsAskedBy (program ∷ w) request) link asked)
refuses program others request asked (inr (inr (inl load))) =
    refuses_conflict (program ∷ codes "load" ∷ codes "main" ∷ []) (load_without_addresses program) (meaning request) (means_no_conflict request) (subst (λ w. IsAskedBy (program ∷ w) request) load asked)
refuses program others request asked (inr (inr (inr two))) =
    refuses_fault (program ∷ codes "load" ∷ codes "--at" ∷ codes "10000" ∷ codes "main" ∷ codes "other" ∷ []) error.UnknownArgument (load_of_two program) (λ e. cc) (λ e. cc) (meaning request) (subst (λ w. IsAskedBy (program ∷ w) request) two asked)

pub asks_refused : (words : List Text) (request : Request) → IsAskedBy words request → (program : Text) (others : List Text) → words ≡ program ∷ others → AreRefused others → Means rejection request
asks_refused words request asked program others is refused = refuses program others request (subst (λ w. IsAskedBy w request) is asked) refused
