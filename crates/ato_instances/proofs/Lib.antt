mod LoadedLaws
