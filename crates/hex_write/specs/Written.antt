-- What the program writes of an image.
use Rattle.std.specs.Prelude.{List, ℕ}
use Rattle.image.specs.Image.{image_verdict, number_in}
use Rattle.hex_format.specs.Text.{hex_of}
use Rattle.hex_output.specs.Output.{output_for}

-- its text, or the line of the number that it is refused by, 1 to 8
unfoldable pub written_of : List ℕ → List ℕ
written_of image = output_for (number_in (image_verdict image)) (hex_of image)
