-- Why addresses are not known.
use Rattle.std.proofs.Common.{◌≡◌, refl, sym, List, ℕ, IfErr, Result, subst}
use Rattle.std.proofs.lemmas.Result.{IfErr-weaker}
use Rattle.hunk_tool.specs.FileSystem.{IsReaderOf}
use Rattle.hunk_tool.specs.Inputs.{Input}
use Rattle.hunk_store.specs.Addresses.{IsAddressesFailure, IsListFailure, IsReadFailure, AddressSource}
use Rattle.hunk_store.specs.Addresses.AddressSource.{in_file, in_list}
use Rattle.hunk_store.specs.Store.{Contents}
use Rattle.hunk_store.specs.declared.failure.Failure.{Failure}
use Rattle.hunk_store.specs.declared.failure.Failure.TheVariants.{BadName, BadNumber, MapOverFile, Opening, Printing, Reading, SameFile, TooLong, TooManyAddresses, Tool, Writing}

module _ (contents : Contents) where
  failure_of_file : (name : List ℕ) (input : Input) (failure : Failure) → IsReaderOf (contents name) input → IsReadFailure name input failure → IsAddressesFailure contents (in_file name) failure
  failure_of_file name input (BadNumber found index) is_reader why = (why.0, record { input = input; is_reader = is_reader; holds = why.1 })
  failure_of_file name input (BadName list index) is_reader why = absurd why
  failure_of_file name input (TooManyAddresses file) is_reader why =
      subst (λ n. IsAddressesFailure contents (in_file n) (TooManyAddresses file)) why.0
      (refl, record { input = input; is_reader = subst (λ n. IsReaderOf (contents n) input) (sym why.0) is_reader; holds = why.1 })
  failure_of_file name input (TooLong file) is_reader why =
      subst (λ n. IsAddressesFailure contents (in_file n) (TooLong file)) why.0
      (refl, record { input = input; is_reader = subst (λ n. IsReaderOf (contents n) input) (sym why.0) is_reader; holds = why.1 })
  failure_of_file name input (Opening file reason) is_reader why = absurd why
  failure_of_file name input (Reading file) is_reader why =
      subst (λ n. IsAddressesFailure contents (in_file n) (Reading file)) why.0
      (refl, record { input = input; is_reader = subst (λ n. IsReaderOf (contents n) input) (sym why.0) is_reader; holds = why.1 })
  failure_of_file name input (Writing file) is_reader why = absurd why
  failure_of_file name input (SameFile file) is_reader why = absurd why
  failure_of_file name input (MapOverFile file) is_reader why = absurd why
  failure_of_file name input Printing is_reader why = absurd why
  failure_of_file name input (Tool fault) is_reader why = why

  -- the addresses in a file are not known, since its reader stopped
  pub IsAddressesFailure-read : {T : Type 0} (source : AddressSource) (name : List ℕ) (input : Input) (r : Result T Failure) → source ≡ in_file name → IsReaderOf (contents name) input
      → IfErr r (IsReadFailure name input) → IfErr r (IsAddressesFailure contents source)
  IsAddressesFailure-read source name input r is is_reader why =
      subst (λ o. IfErr r (IsAddressesFailure contents o)) (sym is)
      (IfErr-weaker r (IsReadFailure name input) (IsAddressesFailure contents (in_file name)) (λ failure. failure_of_file name input failure is_reader) why)

  failure_of_list : (list : List ℕ) (failure : Failure) → IsListFailure list failure → IsAddressesFailure contents (in_list list) failure
  failure_of_list list (BadNumber found index) why = why
  failure_of_list list (TooManyAddresses file) why = absurd why
  failure_of_list list (TooLong file) why = absurd why
  failure_of_list list (BadName other index) why = absurd why
  failure_of_list list (Opening file reason) why = absurd why
  failure_of_list list (Reading file) why = absurd why
  failure_of_list list (Writing file) why = absurd why
  failure_of_list list (SameFile file) why = absurd why
  failure_of_list list (MapOverFile file) why = absurd why
  failure_of_list list Printing why = absurd why
  failure_of_list list (Tool fault) why = why

  -- those in a list are not known
  pub IsAddressesFailure-list : {T : Type 0} (source : AddressSource) (list : List ℕ) (r : Result T Failure) → source ≡ in_list list → IfErr r (IsListFailure list) → IfErr r (IsAddressesFailure contents source)
  IsAddressesFailure-list source list r is why =
      subst (λ o. IfErr r (IsAddressesFailure contents o)) (sym is)
      (IfErr-weaker r (IsListFailure list) (IsAddressesFailure contents (in_list list)) (failure_of_list list) why)
