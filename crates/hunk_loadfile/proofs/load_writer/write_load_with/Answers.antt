-- What was put before an allocation failed is the beginning of the file.
use Rattle.std.proofs.Common.{[], ap, drop, length, take, arith, rules}
use Rattle.std.proofs.lemmas.List.{take-append-drop}
use Rattle.hunk_base.specs.Name.{bytes_of}
use Rattle.hunk_loadfile.specs.WrittenForm.{written_in}
use Rattle.hunk_loadfile.proofs.load_writer.write_load_with.Goals as goal

pub returns-in-Err : goal.returns-in-Err
returns-in-Err g c =
    let put = c.in-Err.ensures.stopped in
    let whole = bytes_of (written_in c.args.form c.args.file.now) in
    let parts = take-append-drop put.front whole in
    let stopped =
    c.out_of_memory.ensures c.args.writer.now (take put.front whole) (drop put.front whole) (omega (arith, ap length parts, c.in-Err.ensures.short))
    (put.puts.adds c.args.writer.now [] c.new-text.ensures.empty) in
    let told = rw parts at stopped in
    search (rules, told)
