mod PieceLaws
mod MissionLaws
mod RoundsLaws
