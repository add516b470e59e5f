-- What the options of linking choose.
use Rattle.std.specs.Prelude.{Bool, List, if◌then◌else◌}
use Rattle.hunk_loadfile.specs.LoadHunk.{FileHunk}
use Rattle.hunk_loadfile.specs.Trimming.{trimmed}
use Rattle.hunk_loadfile.specs.declared.load_form.LoadForm.{LoadForm}
use Rattle.hunk_loadfile.specs.declared.load_form.LoadForm.TheVariants.{Plain, Short}
use Rattle.hunk_tool.specs.declared.link_options.LinkOptions.{LinkOptions}

abbrev pub form_of : LinkOptions → LoadForm
form_of options = if options.short then Short else Plain

abbrev pub trimmed_if : Bool → List FileHunk → List FileHunk
trimmed_if trim hunks = if trim then trimmed hunks else hunks
