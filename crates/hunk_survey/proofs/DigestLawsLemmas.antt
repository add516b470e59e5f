-- The digests of files that compare as the same, and of files that differ.
use Rattle.std.proofs.Common.{◌≡◌, List, Bool, true, false, ap}
use Rattle.sha2.specs.Sha256.{sha256}
use Rattle.hunk_loadfile.specs.LoadHunk.{FileHunk}
use Rattle.hunk_loadfile.specs.Meaning.{MeansTheSame}
use Rattle.hunk_loadfile.specs.Rules.{IsLoadFile}
use Rattle.hunk_tool.specs.Compare.{is_same}
use Rattle.hunk_tool.proofs.CompareLawsLemmas.{same-has_the_same_info, same-means_the_same}
use Rattle.hunk_tool.proofs.CopyLawsLemmas.{normal_bytes-tell_meaning}
use Rattle.hunk_survey.specs.Laws.{OneDigestIsCollision, SameHaveOneDigest}

same-means : (with_symbols : Bool) (first second : List FileHunk) → IsLoadFile first → IsLoadFile second → is_same with_symbols first second ≡ true → MeansTheSame first second
same-means true first second one other same = ((same-has_the_same_info first second one other).0 same).0
same-means false first second one other same = (same-means_the_same first second one other).0 same

pub same-have_one_digest : SameHaveOneDigest
same-have_one_digest with_symbols first second one other same =
    ap sha256 ((normal_bytes-tell_meaning first second one other).1 (same-means with_symbols first second one other same))

pub one_digest-is_collision : OneDigestIsCollision
one_digest-is_collision first second one other same unlike =
    (λ bytes. unlike ((normal_bytes-tell_meaning first second one other).0 bytes), same)
