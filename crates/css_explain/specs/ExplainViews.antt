-- What contracts see of explained declarations.
use Rattle.css_syntax.specs.Views.{declaration_of}
use Rattle.css_cascade.specs.WeightViews.{weighed}
use Rattle.css_explain.specs.declared.explaining.Explained.{Explained}
use Rattle.css_explain.specs.Explanations.{ExplainedText}

abbrev pub explained_of : Explained → ExplainedText
explained_of e = record {
  contender = record {
    weight = weighed e.weight;
    declaration = declaration_of e.winner.declaration;
    source = e.winner.source;
    place = e.winner.place;
  };
  lost_by = e.lost_by;
}
