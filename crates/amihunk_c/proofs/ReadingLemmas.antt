-- What a piece makes of a session that reads a file.
use Rattle.std.proofs.Common.{◌≡◌, ℕ, List, ◌++◌, sym, subst}
use Rattle.std.specs.Global.{Global}
use Rattle.hunk_files.specs.HunkFile.{StandsFor}
use Rattle.hunk_files.specs.declared.hunk_file.HunkFileDecoder.{HunkFileDecoder}
use Rattle.amihunk_c.specs.Reading.{FeedsFile, IsPieceFed}
use Rattle.amihunk_c.specs.declared.answer.Answer.{Answer}
use Rattle.amihunk_c.specs.declared.session.Session.{Session}
use Rattle.amihunk_c.specs.declared.session.Session.TheVariants.{Reading}

pub FeedsFile-reading : (piece : List ℕ) (session new : Session) (decoder : HunkFileDecoder Global) (answer : Answer) → session ≡ Reading decoder
    → ((bytes : List ℕ) → StandsFor decoder bytes → IsPieceFed (bytes ++ piece) new answer) → FeedsFile piece session new answer
FeedsFile-reading piece session new decoder answer is fed = subst (λ (s : Session). FeedsFile piece s new answer) (sym is) fed
