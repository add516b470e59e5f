-- named, since the tactics find the others only slowly, or not at all
use Rattle.std.proofs.Common.{◌≡◌, ◌*◌, ◌<◌, ◌≤◌, ℕ, IfOk, length, subst, sym, arith}
use Rattle.std.specs.List.{All}
use Rattle.hunk_base.specs.Sites.{AreApart}
use Rattle.hunk_loadfile.specs.LoadHunk.{FileHunk}
use Rattle.hunk_loadfile.proofs.LoadHunkLemmas.{most_content-le}
use Rattle.hunk_loader.specs.Loading.{loaded_bytes}
use Rattle.hunk_loader.proofs.loading.moved_bytes.Goals as goal

pub loaded_bytes-requires-clause-fits : goal.loaded_bytes-requires-clause-fits
loaded_bytes-requires-clause-fits g c =
    subst (λ (hunk : FileHunk). length hunk.content ≤ 4 * hunk.size) (sym c.hunk.view_is) (omega (arith, c.requires.content, most_content-le c.args.hunk.kind c.args.hunk.size))

pub loaded_bytes-requires-clause-inside : goal.loaded_bytes-requires-clause-inside
loaded_bytes-requires-clause-inside g c =
    subst (λ (hunk : FileHunk). hunk.sites.limit ≡ 4 * hunk.size) (sym c.hunk.view_is) c.requires.limit

pub loaded_bytes-requires-clause-apart : goal.loaded_bytes-requires-clause-apart
loaded_bytes-requires-clause-apart g c =
    subst (λ (hunk : FileHunk). AreApart hunk.sites) (sym c.hunk.view_is) c.requires.typed.apart

pub loaded_bytes-requires-clause-based : goal.loaded_bytes-requires-clause-based
loaded_bytes-requires-clause-based g c =
    subst (λ (hunk : FileHunk). All (λ (site : ℕ × ℕ). site.1 < length c.args.bases.now) hunk.sites.entries) (sym c.hunk.view_is) c.requires.targets

pub returns : goal.returns
returns g c =
    subst (λ (hunk : FileHunk). IfOk c.loaded_bytes.result (λ bytes. bytes.items ≡ loaded_bytes c.args.bases.now hunk)) c.hunk.view_is c.loaded_bytes.ensures
