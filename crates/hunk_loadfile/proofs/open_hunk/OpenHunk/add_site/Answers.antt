use Rattle.hunk_loadfile.proofs.OpenHunkLemmas.{takes-site}
use Rattle.hunk_loadfile.proofs.open_hunk.OpenHunk.add_site.Goals as goal

pub returns : goal.returns
returns g c =
    let e = c.add_site.ensures in
    takes-site c.args.self.now c.add_site.new.self c.add_site.result c.args.offset c.args.target (record { adds = e.adds; holds = e.holds; judges = e.judges; apart = e.apart; refused = e.refused })
