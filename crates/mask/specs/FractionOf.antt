-- The fraction that the code's `Fraction` stands for.
use Rattle.mask.specs.Mask.{Fraction}
use Rattle.mask.specs.declared.model.Fraction as code

abbrev pub fraction_of : code.Fraction → Fraction
fraction_of r = record { num = r.num; den = r.den }
