-- What `load` prints of a file that `link` wrote is what `image` prints of the files that were linked.
use Rattle.std.specs.Prelude.{◌≡◌, ℕ, Bool, List, ◌++◌, Option, Some, map, ⊤}
use Rattle.hunk_image_text.specs.declared.image_form.ImageForm.{ImageForm}
use Rattle.hunk_tool.specs.FileSystem.FileContent.{known}
use Rattle.hunk_tool.specs.declared.link_options.LinkOptions.{LinkOptions}
use Rattle.hunk_store.specs.Addresses.{AddressSource}
use Rattle.hunk_store.specs.Addresses.AddressSource.{in_file, in_list}
use Rattle.hunk_store.specs.Output.{Printed}
use Rattle.hunk_store.specs.Store.{Contents, IsKnown}
use Rattle.hunk_commands.specs.Image.{AreImaged}
use Rattle.hunk_commands.specs.Link.{IsDone}
use Rattle.hunk_commands.specs.Load.{IsLoaded}
use Rattle.hunk_commands.specs.declared.load.LoadText.TheVariants.{Image}

-- what was printed is this text, after what had been printed before
pub record PrintsAfter (printed : Printed) (text : List ℕ) : Type 0 where
  pub before : List ℕ
  pub old_is : printed.old ≡ Some before
  pub new_is : printed.new ≡ Some (before ++ text)

-- `link`, with a map in this file if one is given, put the load file of files with these bytes in the place of OUT,
-- whether there was a file or not
pub record IsMadeOf (globals : Bool) (options : LinkOptions) (contents : Contents) (files : List (List ℕ)) (texts : List (List ℕ)) (out : List ℕ) (map_file : Option (List ℕ)) (contents_then : Contents) : Type 0 where
  pub texts_are : map contents files ≡ map known texts
  pub out_known : IsKnown (contents out)
  pub done : IsDone globals options contents files out map_file contents_then

-- the addresses are in a list, or in a file with the same bytes before and after
abbrev pub AreKept : (contents contents_then : Contents) → AddressSource → Type 0
AreKept contents contents_then (in_list list) = ⊤
AreKept contents contents_then (in_file name) = (bytes : List ℕ) × (contents name ≡ known bytes) × (contents_then name ≡ known bytes)

-- For every choice of options, with globals or without, and of map and form, and at all addresses: if `link` ended well, and then `load` of OUT and
-- `image` of the files did, these two printed the same.
abbrev pub LoadPrintsTheImage : Type 0
LoadPrintsTheImage =
    (globals : Bool) (options : LinkOptions) (form : ImageForm) (source : AddressSource) (contents contents_then : Contents) (files texts : List (List ℕ)) (out : List ℕ) (map_file : Option (List ℕ))
    (loaded imaged : Printed) (told other : List ℕ)
    → IsMadeOf globals options contents files texts out map_file contents_then → AreKept contents contents_then source
    → IsLoaded (Image form) contents_then source out loaded → PrintsAfter loaded told
    → AreImaged (Image form) contents source files imaged → PrintsAfter imaged other
    → told ≡ other
