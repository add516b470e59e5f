-- The addresses are in a list, or in a file that was opened.
use Rattle.std.proofs.Common.{ap}
use Rattle.hunk_store.specs.Addresses.{input_of, source_of}
use Rattle.hunk_store.proofs.AddressesLemmas.{IsAddressesFailure-list, IsAddressesFailure-read}
use Rattle.hunk_store.proofs.addresses.addresses_of.Goals as goal

pub returns-in-List-clause-err : goal.returns-in-List-clause-err
returns-in-List-clause-err g c =
    IsAddressesFailure-list (g.S.FileSystem.content c.args.store.now) (source_of c.args.addresses) c.in-List.list.now c.parse_list.result (ap source_of c.in-List.is) c.parse_list.ensures.err

pub returns-in_ok-reader-in-File-clause-err : goal.returns-in_ok-reader-in-File-clause-err
returns-in_ok-reader-in-File-clause-err g c =
    let input = input_of g.S.File.Source.left g.S.File.Source.failed g.S.File.Source.ended c.in_ok-reader-in-File.reader c.read_addresses.new.reader in
    IsAddressesFailure-read (g.S.FileSystem.content c.args.store.now) (source_of c.args.addresses) c.in-File.name.now input c.read_addresses.result (ap source_of c.in-File.is)
    (record { from_start = c.in_ok-reader-in-File.ensures.there; to_end = g.met.S.FileSystem.at_end _; may_fail = g.met.S.FileSystem.may_fail _ _ _ }) c.read_addresses.ensures.err
