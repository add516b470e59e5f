-- The report and the S-records of one hunk of four bytes, and of an empty hunk, as they are printed.
use Rattle.std.proofs.Common.{◌≡◌, [], ◌∷◌, refl}
use Rattle.std.specs.Prelude.{codes}
use Rattle.std.specs.Fmt.{digits}
use Rattle.hex.specs.Hex.{encode_with}
use Rattle.hunk_image_text.specs.ImageText.{image_text}
use Rattle.hunk_image_text.specs.declared.image_form.ImageForm.TheVariants.{Report, SRecords}

pub report_of_one_hunk : image_text Report ((0x1_0000, 0x4E ∷ 0x75 ∷ 0x4E ∷ 0x71 ∷ []) ∷ []) ≡ codes "hunk 0 at 00010000 size 4\n00010000 4e754e71\n"
unfolding encode_with digits
report_of_one_hunk = refl

pub report_of_an_empty_hunk : image_text Report ((0xFFFF_FFFC, []) ∷ []) ≡ codes "hunk 0 at fffffffc size 0\n"
unfolding encode_with digits
report_of_an_empty_hunk = refl

pub records_of_one_hunk : image_text SRecords ((0x1_0000, 0x4E ∷ 0x75 ∷ 0x4E ∷ 0x71 ∷ []) ∷ []) ≡ codes "S00A0000616D6968756E6B08\nS309000100004E754E7173\nS70500000000FA\n"
unfolding encode_with digits
records_of_one_hunk = refl

pub records_of_an_empty_hunk : image_text SRecords ((0xFFFF_FFFC, []) ∷ []) ≡ codes "S00A0000616D6968756E6B08\nS70500000000FA\n"
unfolding encode_with digits
records_of_an_empty_hunk = refl
