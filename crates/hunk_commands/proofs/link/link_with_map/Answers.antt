-- What was put in the places of OUT and of MAP, and why it was not.
use Rattle.std.proofs.Common.{◌∙◌, inl, inr, map, string_bytes}
use Rattle.std.proofs.lemmas.Result.{err_from_is_err_and}
use Rattle.hunk_tool.specs.Inputs.{file_names}
use Rattle.hunk_commands.specs.Link.{HasMap, IsMapped}
use Rattle.hunk_commands.proofs.LinkLemmas.{DoLinkTo-files, IsMade-written, IsMapFailure-unmapped, IsMapped-written}
use Rattle.hunk_commands.proofs.PrintingLemmas.{on_flushed}
use Rattle.hunk_tool.proofs.LinkLemmas.{length-trimmed_if}
use Rattle.hunk_commands.proofs.link.link_with_map.Goals as goal

pub write_map_file-requires : goal.write_map_file-requires
write_map_file-requires g c = c.in_ok-units.ensures.matched ∙ length-trimmed_if c.args.options.trim c.in_ok-units.linked c.in_ok-file.file c.in_ok-file.ensures.ok.file_is

pub returns-in_err-file-clause-err : goal.returns-in_err-file-clause-err
returns-in_err-file-clause-err g c =
    let p = err_from_is_err_and c.from_residual-in_err-file.result c.from_residual-in_err-file.ensures.1 in
    let linked = c.in_ok-units.linked in
    let links = DoLinkTo-files c.args.globals c.args.options.strip (g.S.FileSystem.content c.args.store.now) c.in_ok-units.units linked (file_names c.args.files.now) c.in_ok-units.ensures.ok in
    rw (p.1, p.2) (inl (inr (inr (linked, links, c.in_err-file.ensures.err)), c.in_err-file.ensures.unchanged))

pub returns-clause-ok : goal.returns-clause-ok
returns-clause-ok g c =
    let contents = g.S.FileSystem.content c.args.store.now in
    let between = g.S.FileSystem.content c.write_out.new.store in
    let contents_then = g.S.FileSystem.content c.write_map_file.new.store in
    let names = file_names c.args.files.now in
    let told = map string_bytes c.args.names.now in
    on_flushed c.write_map_file.result (HasMap told c.in_ok-file.file c.in_ok-units.units c.args.map_file.now between contents_then) (IsMapped c.args.globals c.args.options told contents names c.args.out.now c.args.map_file.now contents_then)
    (λ has_map. IsMapped-written c.args.globals c.args.options c.in_ok-units.units c.in_ok-units.linked c.in_ok-file.file c.in_ok-units.ensures.short c.args.out.now c.args.map_file.now contents between contents_then c.in_ok-file.ensures.ok
    told has_map names c.in_ok-units.ensures.ok) c.write_map_file.ensures.ok

pub returns-clause-err : goal.returns-clause-err
returns-clause-err g c =
    let contents = g.S.FileSystem.content c.args.store.now in
    let between = g.S.FileSystem.content c.write_out.new.store in
    let contents_then = g.S.FileSystem.content c.write_map_file.new.store in
    let names = file_names c.args.files.now in
    let links = DoLinkTo-files c.args.globals c.args.options.strip contents c.in_ok-units.units c.in_ok-units.linked names c.in_ok-units.ensures.ok in
    let made = IsMade-written c.args.globals c.args.options c.in_ok-units.linked c.in_ok-file.file c.in_ok-units.ensures.short c.args.out.now contents between c.in_ok-file.ensures.ok names links in
    IsMapFailure-unmapped c.args.globals c.args.options contents between contents_then names c.args.out.now c.args.map_file.now c.write_map_file.result c.write_map_file.ensures.unchanged c.write_map_file.ensures.err made
